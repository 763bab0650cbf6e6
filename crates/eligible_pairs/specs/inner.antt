pub mod Lent
pub mod Mismatches
