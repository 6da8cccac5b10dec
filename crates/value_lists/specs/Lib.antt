pub mod Hashes
pub mod ValueList
