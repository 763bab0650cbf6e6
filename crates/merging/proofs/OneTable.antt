-- One tree, one table; one table, one tree: two trees on the same leaves are the same exactly when their tables are
-- equal. Of two listings that keep the rules: their trees have one standard listing exactly when they have one table.
use mathlib.Core.Path.{◌≡◌}
use mathlib.Core.Logic.{◌↔◌}
use mathlib.Core.Bool.{true}
use mathlib.Core.List.{List}
use Prim.Native.Nat.{ℕ}
use Rattle.limits.specs.Limits.{IsLeafCount}
use Rattle.trees.specs.Trees.{Tree, IsTree}
use Rattle.trees.specs.Listings.{KeepsRules, tree_of, standard}
use Rattle.trees.specs.Edges.{same_edges}
use Rattle.trees.specs.Tables.{table_of}
use Rattle.trees.proofs.Subtrees.{ordered_same}
use Rattle.trees.proofs.Rules.{listing_tree}
use Rattle.trees.proofs.Tables.{table_same, same_table}
use Rattle.merging.proofs.SameTree.{same_quartets, quartets_ordered, same_listing}

-- two trees on the same leaves are the same exactly when their tables are equal
pub one_table :
    (n : ℕ) → IsLeafCount n → (T T' : Tree) → IsTree n T → IsTree n T'
    → (same_edges n T T' ≡ true) ↔ (table_of n T ≡ table_of n T')
one_table n c T T' h h' = (
  λ e. table_same n T T' (same_quartets n T T' e),
  λ e. ordered_same n T T' (quartets_ordered n c T T' h h' (same_table n T T' e)),
)

-- two listings that keep the rules have one standard listing exactly when their trees have one table
pub one_table_listings :
    (n : ℕ) → IsLeafCount n → (l l' : List ℕ) → KeepsRules n l → KeepsRules n l'
    → (standard n (tree_of n l) ≡ standard n (tree_of n l')) ↔ (table_of n (tree_of n l) ≡ table_of n (tree_of n l'))
one_table_listings n c l l' k k' =
    let h = listing_tree n c l k in
    let h' = listing_tree n c l' k' in
    let trees = one_table n c (tree_of n l) (tree_of n l') h h' in
    let listings = same_listing n c (tree_of n l) (tree_of n l') h h' in
    (λ e. trees.0 (listings.1 e), λ e. listings.0 (trees.1 e))
