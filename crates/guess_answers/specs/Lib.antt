pub mod Operations
pub mod Meanings
