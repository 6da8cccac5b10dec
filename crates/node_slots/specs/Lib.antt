pub mod Slots
pub mod RowSlots
pub mod Rows
pub mod Tables
pub mod Cells
pub mod Growth
pub mod Order
