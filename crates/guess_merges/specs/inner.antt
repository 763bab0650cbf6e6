pub mod Blocks
pub mod Guessing
