pub mod Running
mod Bytes
mod Complete
pub mod Depths
mod Sound
mod First
pub mod ReaderLaws
mod Plain
pub mod Strains
pub mod DrawnTrees
pub mod Exports
pub mod ExportLength
pub mod Sides
pub mod Imports
pub mod OnlyTree
pub mod Sheets
mod Cases
