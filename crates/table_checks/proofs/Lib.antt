mod Searches
mod Verdicts
pub mod TableRefusal
pub mod Causes
