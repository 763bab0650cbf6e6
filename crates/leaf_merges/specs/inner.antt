pub mod Partners
pub mod LeafMerges
