pub mod PairPlaces
pub mod GapSums
