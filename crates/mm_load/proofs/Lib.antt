pub mod KindLemmas
pub mod LoadLemmas
pub mod KeyLemmas
