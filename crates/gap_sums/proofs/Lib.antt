pub mod PairPlaces
mod Columns
