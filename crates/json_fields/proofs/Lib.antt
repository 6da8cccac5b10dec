pub mod FieldLemmas
pub mod TakeLemmas
