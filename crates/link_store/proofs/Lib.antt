pub mod RowLemmas
pub mod ReadLemmas
pub mod IncomingLemmas
pub mod PlacesLemmas
mod Examples
