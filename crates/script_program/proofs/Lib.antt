mod PoolLemmas
mod SessionLemmas
mod BoundLemmas
mod ScriptLemmas
mod LostLemmas
mod PlainLemmas
mod BatchLemmas
mod LiveLemmas
mod KeptLemmas
mod DurableLemmas
pub mod LeftLemmas
mod KeptRunLemmas
