pub mod HashLemmas
pub mod ShortLemmas
