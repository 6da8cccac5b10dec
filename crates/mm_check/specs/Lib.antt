pub mod Checks
pub mod Documents
pub mod Checker
pub mod Search
pub mod Literals
pub mod Outcome
