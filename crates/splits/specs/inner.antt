pub mod NodeSets
