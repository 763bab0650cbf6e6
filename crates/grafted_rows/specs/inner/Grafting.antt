-- How the rows of the grafted tree are written: what the inner functions require and ensure. No public contract cites
-- it.
use Rattle.std.specs.Prelude.{◌≡◌, true, List, ◌++◌, ℕ, ◌+◌, ◌-◌, ◌*◌, ◌≤◌, ◌<◌, length}
use Rattle.limits.specs.Limits.{IsLeafCount}
use Rattle.trees.specs.Trees.{Tree, leaf, node, leaves, size}
use Rattle.trees.specs.Listings.{number_in, post_order}
use Rattle.standard_listings.specs.inner.Standardising.{RowsWritten}
use Rattle.grafted_trees.specs.Grafts.{with_leaf}

-- leaf x where the edge is below a subtree, and not where it is the one above it: `with_leaf` at the two children
unfoldable pub grafted_below : ℕ → ℕ → Tree → ℕ → Tree
grafted_below x e (leaf i) r = leaf i
grafted_below x e (node A B) r = node (with_leaf x e A r) (with_leaf x e B (r + size A - 1))

-- the rows of the subtree X, of which the first is node r's, stand one after the other in a listing of n leaves, and v
-- is the number of X
pub record Block (n : ℕ) (rows : List ℕ) (X : Tree) (r v : ℕ) : Type 0 where
  pub before : List ℕ
  pub after : List ℕ
  pub joins : rows ≡ before ++ (post_order X r ++ after)
  pub starts : length before ≡ 2 * (r - n)
  pub low : n ≤ r
  pub high : r + size X ≤ 2 * n - 1
  pub within : (k : ℕ) → leaves X k ≡ true → k < n
  pub number : v ≡ number_in X r

-- and so the rows of Y, which X becomes, may be written from row s on
pub record RowsFit (n : ℕ) (rows : List ℕ) (X : Tree) (r : ℕ) (Y : Tree) (v s : ℕ) (out : List ℕ) : Type 0 where
  pub count : IsLeafCount n
  pub block : Block n rows X r v
  pub below : s + size Y ≤ n
  pub room : 2 * (n - 1) ≤ length out

-- so it is of some subtree X, which f changes
pub record SubtreeFits (f : Tree → ℕ → Tree) (n : ℕ) (rows : List ℕ) (v s : ℕ) (out : List ℕ) : Type 0 where
  pub tree : Tree
  pub first : ℕ
  pub fits : RowsFit n rows tree first (f tree first) v s out

-- the rows of Y have been written from row s on, among those of n + 1 leaves: the next row, and the number of Y
pub record SubtreeWritten (n : ℕ) (Y : Tree) (s : ℕ) (out out' : List ℕ) (next number : ℕ) : Type 0 where
  pub rows : RowsWritten (n + 1) Y s out out' next
  pub numbered : number ≡ number_in Y (n + 1 + s)
