pub mod Layout
pub mod Parts
pub mod Contents
pub mod Faults
pub mod Keys
pub mod FoundParts
