pub mod ListLemmas
pub mod LevelLemmas
pub mod RootLemmas
pub mod OrderLemmas
mod FilterLemmas
mod ClassOrderLemmas
pub mod AddedLemmas
pub mod PlainLemmas
pub mod ReferLemmas
mod LibraryModels
mod Examples
