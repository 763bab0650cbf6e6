pub mod Grafting
