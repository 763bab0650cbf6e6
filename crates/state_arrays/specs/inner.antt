pub mod Fits
pub mod Merged
pub mod StateArrays
