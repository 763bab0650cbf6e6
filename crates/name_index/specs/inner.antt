pub mod Hashes
pub mod Indexes
