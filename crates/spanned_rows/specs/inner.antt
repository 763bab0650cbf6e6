pub mod Marks
pub mod Parts
