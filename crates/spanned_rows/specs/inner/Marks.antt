-- The leaves that are marked in an array, and the new numbers that they get. No public contract cites this.
use Rattle.std.specs.Prelude.{◌≡◌, Bool, false, cond, List, ℕ, ◌-◌, ◌*◌, ◌<◌, length, get_or, take}
use Rattle.limits.specs.Limits.{most_nodes, most_numbers}
use Rattle.trees.specs.Trees.{LeafSet}
use Rattle.trees.specs.Listings.{KeepsRules, tree_of}
use Rattle.spanned_trees.specs.Spans.{rank, spanned}

-- the leaves that are marked
abbrev pub marked : List Bool → LeafSet
marked marks k = get_or marks k false

-- the number of a subtree of which nothing stays: no leaf and no node has it
abbrev pub nothing : ℕ
nothing = most_nodes

-- the number of what stays of a leaf
unfoldable pub leaf_number : LeafSet → ℕ → ℕ
leaf_number v k = cond (v k) (rank v k) nothing

-- an array that has it for each leaf
pub record LeavesNumbered (n : ℕ) (v : LeafSet) (numbers : List ℕ) : Type 0 where
  pub long : length numbers ≡ most_nodes
  pub each : (k : ℕ) → k < n → get_or numbers k 0 ≡ leaf_number v k

-- m leaves span a tree, and its rows stand at the front of an array
pub record Spanned (n : ℕ) (l : List ℕ) (v : LeafSet) (m : ℕ) (rows : List ℕ) : Type 0 where
  pub count : m ≡ rank v n
  pub long : length rows ≡ most_numbers
  pub keeps : KeepsRules m (take (2 * (m - 2)) rows)
  pub tree : tree_of m (take (2 * (m - 2)) rows) ≡ spanned v (tree_of n l)
