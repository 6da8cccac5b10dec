mod NamesBefore
mod Unique
mod Inside
mod Deciding
mod Faulting
mod DocumentLemmas
