mod LineLemmas
pub mod WordLemmas
mod TextLemmas
mod ValueLemmas
pub mod FormLemmas
mod LoadLemmas
pub mod NumberLemmas
pub mod NameLemmas
