pub mod Packed
pub mod Operations
