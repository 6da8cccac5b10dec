pub mod Resolving
pub mod Refusals
pub mod Proxies
pub mod ResolvingAll
pub mod Keys
pub mod Leads
