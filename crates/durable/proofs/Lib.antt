mod DialogueLemmas
mod HeadLemmas
pub mod InputLemmas
mod RunLemmas
mod TwinLemmas
