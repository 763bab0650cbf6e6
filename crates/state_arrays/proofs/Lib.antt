mod Merged
pub mod Fits
pub mod StateArrays
