pub mod FrontLemmas
pub mod PlaceLemmas
pub mod SearchLemmas
mod Examples
pub mod OrderLemmas
pub mod TakenLemmas
pub mod NodeLemmas
pub mod EachLemmas
