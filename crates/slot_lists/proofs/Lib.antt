pub mod PieceLemmas
pub mod HoleLemmas
pub mod LayoutLemmas
pub mod MoveLemmas
pub mod PositionLemmas
pub mod ShortLemmas
