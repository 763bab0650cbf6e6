pub mod Parts
pub mod Hashes
pub mod NamedLeaves
pub mod Indexes
