pub mod Standardising
