pub mod Mismatches
pub mod Lent
