mod LentSets
mod Pairs
