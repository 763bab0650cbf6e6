mod Signed
pub mod GapAnswers
pub mod GapLaws
pub mod LowestGaps
