pub mod EndValues
pub mod EndValueList
pub mod Proxies
