mod Blocks
mod Sums
mod Choices
mod Turns
mod NextMerge
pub mod Starts
