pub mod Records
pub mod Counts
pub mod Operations
pub mod inner
