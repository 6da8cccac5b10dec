pub mod JoinFacts
pub mod PathFacts
pub mod CutLemmas
pub mod AddressFacts
pub mod ReadLemmas
pub mod OnlyLemmas
