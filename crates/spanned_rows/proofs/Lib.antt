pub mod Gathering
pub mod Parts
pub mod Arrays
pub mod Spanned
