pub mod Commands
pub mod Heard
pub mod Enough
pub mod Reload
pub mod Nodes
pub mod Steps
pub mod Values
