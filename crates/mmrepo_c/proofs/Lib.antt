mod CallLemmas
mod LooseValues
mod PointerValues
