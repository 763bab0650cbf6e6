pub mod Nodes
mod Leasts
pub mod SubtreeRows
