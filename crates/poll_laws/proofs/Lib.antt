mod FourSums
mod Orders
mod PairCells
mod AcceptedPolls
pub mod OwnPolls
pub mod PollTables
pub mod PollTotals
pub mod PollRebuilt
