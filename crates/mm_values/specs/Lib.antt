pub mod Stored
pub mod Attributes
pub mod ListEdits
pub mod Values
pub mod Slots
pub mod Uris
pub mod Room
