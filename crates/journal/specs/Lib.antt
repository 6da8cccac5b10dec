pub mod Disk
pub mod Journal
pub mod Lines
