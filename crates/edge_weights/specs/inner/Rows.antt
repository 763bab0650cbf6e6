-- What the arrays hold once the rows of a standard listing before row k are gone through as merges: each leaf has the
-- label of its subtree, which is a leaf of it, and its number m. No public contract cites it.
use Rattle.std.specs.Prelude.{◌≡◌, ◌≢◌, true, List, ℕ, ◌+◌, ◌*◌, ◌<◌, eqb, length, get_or}
use Rattle.limits.specs.Limits.{most_leaves, most_nodes, IsLeafCount}
use Rattle.trees.specs.Trees.{Tree, leaves, size}
use Rattle.trees.specs.Listings.{KeepsRules, subtree_at, tree_of, standard}
use Rattle.trees.specs.Tables.{table_of, IsTable}
use Rattle.trees.proofs.BranchedPairs.{inner_sum}
use Rattle.state_arrays.specs.inner.Fits.{IsScale, ScaledCounts, SmallSums}

-- what is given: a standard listing, the table of its tree, a new table of one leaf more, its scale, and the pair
-- counts at that scale
pub record Given (n s : ℕ) (l t u p : List ℕ) : Type 0 where
  pub count : IsLeafCount n
  pub new_count : IsLeafCount (n + 1)
  pub keeps : KeepsRules n l
  pub is_standard : standard n (tree_of n l) ≡ l
  pub is_own : t ≡ table_of n (tree_of n l)
  pub is_table : IsTable (n + 1) u
  pub scaled : IsScale s
  pub pair_counts : ScaledCounts n s p

-- number e is a leaf's or made by a row before row k, and no such row names it
pub record Free (n : ℕ) (l : List ℕ) (k e : ℕ) : Type 0 where
  pub made : e < n + k
  pub unnamed : (q : ℕ) → q < 2 * k → get_or l q 0 ≢ e

-- the arrays hold the subtree X with the label f: its leaves have this label, m is s times what branches off in X on
-- the way to the leaf, and the size is there under the label
pub record Held (n s : ℕ) (label m sizes : List ℕ) (f : ℕ) (X : Tree) : Type 0 where
  pub below : f < n
  pub own : leaves X f ≡ true
  pub labelled : (j : ℕ) → j < n → eqb (get_or label j 0) f ≡ leaves X j
  pub sums : (j : ℕ) → j < n → leaves X j ≡ true → get_or m j 0 ≡ s * inner_sum X j
  pub sized : get_or sizes f 0 ≡ size X

-- the arrays before row k: `firsts` has the label of the subtree of each number
pub record BeforeRow (n s : ℕ) (l : List ℕ) (k : ℕ) (label m sizes firsts : List ℕ) : Type 0 where
  pub label_long : length label ≡ most_leaves
  pub m_long : length m ≡ most_leaves
  pub sizes_long : length sizes ≡ most_leaves
  pub firsts_long : length firsts ≡ most_nodes
  pub small : SmallSums n m
  pub held : (e : ℕ) → Free n l k e → Held n s label m sizes (get_or firsts e 0) (subtree_at n l e)
  pub differ : (e d : ℕ) → Free n l k e → Free n l k d → e ≢ d → get_or firsts e 0 ≢ get_or firsts d 0
