pub mod EdgeNumbers
pub mod Grafts
mod Cases
