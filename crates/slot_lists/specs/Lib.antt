pub mod Pieces
pub mod Places
pub mod Layout
pub mod SlotList
pub mod Moved
pub mod ShortList
