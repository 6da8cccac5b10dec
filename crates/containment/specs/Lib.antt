pub mod Above
pub mod Forest
pub mod Waiting
