pub mod Accepted
pub mod Promises
