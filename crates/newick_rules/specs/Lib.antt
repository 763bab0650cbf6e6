pub mod Drawings
pub mod Reader
pub mod Writings
pub mod Exporting
pub mod Importing
pub mod Operations
pub mod Meanings
pub mod Cases
