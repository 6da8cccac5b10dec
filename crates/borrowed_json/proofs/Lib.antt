mod PutLemmas
mod ReadingLemmas
pub mod ViewLemmas
pub mod KeyLemmas
mod NumberLemmas
