pub mod Figures
pub mod Sizes
