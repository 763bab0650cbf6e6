pub mod FreeNumbers
pub mod RowsJoined
mod RowClasses
mod RowGapSums
pub mod RowGaps
mod RowWeights
