pub mod Ranks
pub mod Kept
pub mod Spans
pub mod Prunes
pub mod Cases
