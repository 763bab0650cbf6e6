pub mod OneSubtree
