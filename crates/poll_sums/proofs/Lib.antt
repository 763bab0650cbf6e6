pub mod Sums
pub mod Keeping
