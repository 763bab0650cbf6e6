pub mod Counts
pub mod Records
pub mod Quartets
pub mod Operations
