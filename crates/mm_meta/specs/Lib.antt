pub mod NameTable
pub mod FeatureNames
pub mod Containments
pub mod Resolver
pub mod Meta
pub mod Resolution
pub mod Laws
