pub mod PositionLemmas
pub mod TargetLemmas
pub mod LeadLemmas
pub mod ReplacedLemmas
