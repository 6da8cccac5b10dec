pub mod ActLemmas
pub mod AllLemmas
pub mod ApartLemmas
pub mod AttributeLemmas
pub mod ChainLemmas
mod ResolvedCutLemmas
pub mod CutEndLemmas
pub mod CutHeldLemmas
pub mod CutLinkEndLemmas
mod YieldLemmas
pub mod HappenedLemmas
pub mod KnownLemmas
pub mod RemovalLemmas
pub mod LegalEndLemmas
pub mod LegalLemmas
pub mod LinkLemmas
mod ListLegalLemmas
pub mod LoadLemmas
mod ListReplayLemmas
mod LostLemmas
pub mod DestroyLemmas
pub mod LoadChainLemmas
mod LoadEndLemmas
mod LoadHolderLemmas
mod LoadStoredLemmas
mod LoadValueLemmas
pub mod LoadedLemmas
pub mod LossLemmas
mod ObjectLegalLemmas
pub mod PlanLemmas
pub mod ProxyLemmas
pub mod RelinkLemmas
pub mod ReplayLemmas
pub mod EachLemmas
mod SingleLemmas
pub mod ResolveAllLemmas
pub mod ResolveLemmas
mod ResolvedLemmas
pub mod ResolvedReadingLemmas
pub mod FeatureChangeLemmas
pub mod LinkEndNameLemmas
