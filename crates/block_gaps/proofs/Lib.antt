pub mod AddedGaps
