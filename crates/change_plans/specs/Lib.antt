pub mod Joining
pub mod LonePuts
pub mod Plans
