pub mod Loading
pub mod Fits
pub mod Typed
pub mod Pairs
pub mod ListIndexes
pub mod LoadEdits
pub mod Laws
