pub mod AboveLemmas
pub mod ForestLemmas
pub mod HolderLemmas
pub mod PartLemmas
pub mod ChainLemmas
pub mod TreeLemmas
pub mod MemberLemmas
mod BelowLemmas
mod LeafLemmas
pub mod DistinctLemmas
mod Examples
