pub mod ReadLemmas
pub mod EndLemmas
pub mod EmptyLemmas
pub mod PlaceLemmas
pub mod ListLemmas
