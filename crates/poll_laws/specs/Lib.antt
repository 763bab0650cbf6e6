pub mod OwnPairings
