pub mod Layout
pub mod Loaded
