-- What moving leaf n to the edge above a number adds to the total gap and takes from it. No public contract cites it.
use Rattle.std.specs.Prelude.{◌≡◌, List, ℕ, ◌+◌, ◌-◌, ◌*◌, ◌≤◌, get_or}
use Rattle.trees.specs.Trees.{Tree, leaves, size}
use Rattle.trees.specs.Listings.{subtree_at, tree_of}
use Rattle.grafted_cells.specs.inner.Moves.{beyond, block_gap, new_row_gap}
use Rattle.block_gaps.specs.inner.Blocks.{of_class, most_gaps}
use Rattle.edge_weights.specs.inner.NewRows.{row_gap}

-- the number e of the subtree A, whose brother is B, under one node of the tree T: what is gained and lost where leaf n
-- moves to its edge from the node's, but for the gaps in the row of leaf n at the node's edge; and the gaps in that row
-- at its own
pub record Weighed (n s : ℕ) (t u : List ℕ) (T : Tree) (e : ℕ) (A B : Tree) (gain loss row : ℕ) : Type 0 where
  pub gained :
      gain
      ≡ block_gap n s 0 t u (leaves A) (leaves B) + block_gap n s (size A) t u (leaves B) (beyond A B)
      + new_row_gap n s u T e
  pub lost :
      loss
      ≡ block_gap n s (n - (size A + size B)) t u (leaves A) (leaves B)
      + block_gap n s 0 t u (leaves B) (beyond A B)
  pub in_row : row ≡ new_row_gap n s u T e
  pub gain_small : gain ≤ 3 * most_gaps

-- the same by classes and labels: the child of `own` leaves has the label f, and its brother the class y
pub record ChildWeighed (n f own y between more_between s : ℕ) (classes label m p t u : List ℕ) (gain loss row : ℕ)
    : Type 0 where
  pub gained :
      gain
      ≡ between + block_gap n s own t u (of_class classes y) (of_class classes 0)
      + row_gap n f own s label m p t u n
  pub lost : loss ≡ more_between + block_gap n s 0 t u (of_class classes y) (of_class classes 0)
  pub in_row : row ≡ row_gap n f own s label m p t u n
  pub gain_small : gain ≤ 3 * most_gaps

-- both children of row k are weighed
pub record RowWeighed (n s : ℕ) (l t u : List ℕ) (k gain loss row gain' loss' row' : ℕ) : Type 0 where
  pub first :
      Weighed n s t u (tree_of n l) (get_or l (2 * k) 0) (subtree_at n l (get_or l (2 * k) 0))
      (subtree_at n l (get_or l (2 * k + 1) 0)) gain loss row
  pub second :
      Weighed n s t u (tree_of n l) (get_or l (2 * k + 1) 0) (subtree_at n l (get_or l (2 * k + 1) 0))
      (subtree_at n l (get_or l (2 * k) 0)) gain' loss' row'
