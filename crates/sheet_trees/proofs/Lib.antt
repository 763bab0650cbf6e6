mod SheetTree
mod InBytes
pub mod Promises
