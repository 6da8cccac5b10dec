pub mod EditedCells
pub mod CellLinks
pub mod Entering
