mod ClassLemmas
pub mod MetaLemmas
mod NameLemmas
mod FeatureNameLemmas
pub mod ByNameLemmas
pub mod OwnerLemmas
mod ResolverLemmas
mod TableLemmas
pub mod PlaceLemmas
pub mod PairLemmas
pub mod ConformLemmas
pub mod ShapeLemmas
pub mod OwnNameLemmas
pub mod FeatureListLemmas
pub mod Library
