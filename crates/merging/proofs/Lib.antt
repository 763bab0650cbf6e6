pub mod States
pub mod MergeLists
pub mod Runs
pub mod Values
pub mod Soundness
mod Completeness
mod ThreeSubtrees
mod Exchange
pub mod Rebuilds
pub mod Means
pub mod Guesses
mod Ends
pub mod Rooted
pub mod Demand3
pub mod Meaning
pub mod GuessLaws
pub mod FinalEdges
pub mod SameTree
pub mod OneTable
pub mod Speed
