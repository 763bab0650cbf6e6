pub mod Grafts
pub mod inner
