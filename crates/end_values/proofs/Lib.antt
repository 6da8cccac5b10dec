pub mod EndValueLemmas
pub mod ProxyLemmas
