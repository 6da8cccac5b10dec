pub mod Lines
pub mod Words
pub mod Values
pub mod Forms
pub mod Source
