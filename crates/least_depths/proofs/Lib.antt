mod LeastDepths
pub mod RowCounts
pub mod Rows
