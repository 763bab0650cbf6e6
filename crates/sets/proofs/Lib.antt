pub mod WordSets
pub mod SetLaws
