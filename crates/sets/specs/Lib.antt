pub mod Sets
pub mod Words
pub mod inner
