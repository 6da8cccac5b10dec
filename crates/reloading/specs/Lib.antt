pub mod Addressed
pub mod Alike
pub mod Between
pub mod Proxies
pub mod Images
pub mod Laws
pub mod Orders
pub mod Reload
