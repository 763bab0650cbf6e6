pub mod Quartets
