pub mod Depths
pub mod Rows
