pub mod Joining
pub mod Finishing
pub mod Arrays
pub mod Chains
