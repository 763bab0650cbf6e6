pub mod Examples
pub mod Names
pub mod NameRefusals
pub mod TrailerFigures
pub mod Sizes
pub mod SheetRefusal
pub mod Causes
mod Cells
pub mod Accepted
pub mod WrittenSheets
