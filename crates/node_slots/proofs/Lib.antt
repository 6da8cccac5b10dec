pub mod ListLemmas
pub mod SlotLemmas
pub mod RowLemmas
pub mod TableLemmas
pub mod CellLemmas
pub mod KeyLemmas
pub mod TakesLemmas
