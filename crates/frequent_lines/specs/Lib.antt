pub mod Verbs
pub mod Frequent
