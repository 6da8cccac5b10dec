pub mod ListReplay
pub mod Order
pub mod Replayed
pub mod Snapshots
