pub mod CellPlaces
pub mod PackedIsTable
pub mod Sizes
