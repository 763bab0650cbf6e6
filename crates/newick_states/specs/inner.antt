pub mod Continuing
pub mod States
