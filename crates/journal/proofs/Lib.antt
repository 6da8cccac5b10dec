mod CommitLemmas
mod CrashLemmas
mod CutLemmas
mod EntryLemmas
mod JournalLemmas
mod MomentLemmas
mod RepairLemmas
