pub mod LeafMerges
