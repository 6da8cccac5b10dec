pub mod Fragments
pub mod Finding
pub mod Kept
pub mod Known
pub mod Located
pub mod Laws
