pub mod DressLemmas
