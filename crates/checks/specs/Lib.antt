pub mod Sizes
pub mod Questions
