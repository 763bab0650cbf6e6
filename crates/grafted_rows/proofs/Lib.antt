mod Blocks
mod GraftedSubtrees
