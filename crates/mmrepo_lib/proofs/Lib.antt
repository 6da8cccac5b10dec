mod HeardLemmas
mod ReplayLemmas
mod ThereLemmas
mod EnoughLemmas
mod BareStepLemmas
mod ReloadLemmas
