mod NameBytes
pub mod Tells
