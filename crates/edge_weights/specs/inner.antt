pub mod Classes
pub mod NewRows
pub mod Rows
pub mod Weights
