pub mod PackedLeaves
