pub mod Order
pub mod Visits
pub mod Sets
pub mod ConformTable
pub mod First
pub mod Rows
pub mod Gathered
