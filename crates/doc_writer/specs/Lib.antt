pub mod Written
pub mod Document
pub mod Added
pub mod Saved
pub mod References
