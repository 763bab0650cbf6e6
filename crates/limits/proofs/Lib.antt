pub mod TablePlaces
pub mod TableKinds
