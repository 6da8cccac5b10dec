pub mod Calls
pub mod Filled
pub mod Sessions
pub mod Pointers
pub mod Statuses
