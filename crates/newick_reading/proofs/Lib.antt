pub mod Moves
pub mod Fitting
pub mod Naming
pub mod Joining
pub mod Finishing
