pub mod Turns
pub mod Dressed
