pub mod Joining
pub mod Arrays
pub mod Lending
