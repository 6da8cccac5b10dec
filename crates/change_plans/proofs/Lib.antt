mod FollowLemmas
mod JoinedLemmas
mod ProgressLemmas
pub mod UnderwayLemmas
mod StepLemmas
pub mod AllPlannedLemmas
pub mod PlannedLemmas
pub mod RefusalLemmas
mod NotifierLemmas
pub mod LonePutLemmas
pub mod ValueLemmas
