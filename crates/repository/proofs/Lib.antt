pub mod AdapterLemmas
pub mod OthersLemmas
pub mod SpotLemmas
pub mod QuietLemmas
pub mod AttachLemmas
pub mod LeavingLemmas
pub mod LiveLemmas
pub mod LoadLemmas
pub mod PlanLemmas
pub mod ValueLemmas
pub mod LegalAdapterLemmas
pub mod AllowedLemmas
pub mod LegalLemmas
pub mod ResourceLemmas
pub mod DocumentLemmas
pub mod ReadLemmas
pub mod KeptNodeLemmas
pub mod RunLemmas
pub mod AloneLemmas
pub mod RememberedLemmas
mod InsideLemmas
mod LonePutLemmas
