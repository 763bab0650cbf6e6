mod Places
mod PlaceSums
mod PlaceNumbers
mod PlacedCells
mod GraftedPlaces
pub mod NewRow
mod MovedCells
pub mod MovedLeaf
pub mod Totals
