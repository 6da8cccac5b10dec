pub mod Outer
pub mod Ranks
pub mod Removals
pub mod Losses
pub mod TreeLinkEnds
pub mod Laws
