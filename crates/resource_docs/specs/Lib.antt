pub mod Texts
pub mod Values
pub mod Read
pub mod Reading
pub mod Causes
pub mod Keys
pub mod Ends
