-- The row of the new leaf n, grafted on the edge above a subtree: its cells at the leaves of the subtree are the inner
-- sums there and the pairs of the leaves beyond; its cells elsewhere are those of a leaf of the subtree, with all pairs
-- of the subtree in the place of that leaf's inner sum.
use mathlib.Core.Path.{◌≡◌, ◌∙◌}
use mathlib.Core.Bool.{true, false}
use Prim.Native.Nat.{ℕ, ◌+◌, ◌-◌, ◌<◌}
use native.Mathlib.Omega.{arith}
use Rattle.base.proofs.Bools.{or_left, or_right}
use Rattle.limits.specs.Limits.{IsLeafCount}
use Rattle.pair_counts.specs.Pairs.{P}
use Rattle.trees.specs.Trees.{Tree, leaf, node, leaves, size, IsTree, ordered}
use Rattle.trees.specs.Listings.{subtree_at, standard}
use Rattle.trees.specs.Quartets.{quartets}
use Rattle.trees.proofs.Trees.{leaves_node, leaf_has, size_leaf, size_node, Apart, apart_sym}
use Rattle.trees.proofs.Quartets.{quartets_ij}
use Rattle.trees.proofs.BranchedPairs.{inner_sum, inner_sum_leaf, inner_sum_right}
use Rattle.trees.proofs.PathSums.{path_sum_cross}
use Rattle.grafted_trees.specs.Grafts.{names_edge, grafted}
use Rattle.grafted_cells.proofs.Places.{Place, top, placed, here_in, elsewhere_is, distinct_placed}
use Rattle.grafted_cells.proofs.PlaceNumbers.{start, PlaceOf}
use Rattle.grafted_cells.proofs.PlacedCells.{from_zero, Stands, cells_here, cells_out}
use Rattle.grafted_cells.proofs.GraftedPlaces.{edge_place, edge_subtree, tree_stands, grafted_stands}

-- A tree T with the subtree Z at a place, and the tree X with leaf n beside Z.
module _ {n : ℕ} {T X : Tree} {o : Place} {Z : Tree} (old : Stands n T o Z)
    (new : Stands (n + 1) X o (node Z (leaf n))) where
  apart : Apart Z (leaf n)
  apart = (distinct_placed o (node Z (leaf n)) new.distinct).2

  new_in : leaves (node Z (leaf n)) n ≡ true
  new_in = rw leaves_node (or_right (leaves Z n) _ (leaf_has n))

  new_cells_in : (i : ℕ) → leaves Z i ≡ true → quartets (n + 1) X i n ≡ inner_sum Z i + P (n - size Z)
  new_cells_in i q =
      let low = old.within i (here_in o Z i q) in
      let rest : n + 1 - (size Z + 1) ≡ n - size Z = omega arith in
      cells_here new i n (rw leaves_node (or_left _ _ q)) new_in (omega arith)
      ∙ path_sum_cross (n + 1) Z (leaf n) i n apart q (leaf_has n)
      ∙ rw (size_leaf n, inner_sum_leaf n n, rest) (omega arith)

  new_cells_out :
      (i j : ℕ) → i < n → leaves Z i ≡ false → leaves Z j ≡ true
      → quartets (n + 1) X i n + inner_sum Z j ≡ quartets n T i j + P (size Z)
  new_cells_out i j low out q =
      let sizes : n + 1 + size Z ≡ n + size (node Z (leaf n)) = omega (arith, size_node Z (leaf n), size_leaf n) in
      rw (quartets_ij (n + 1) X i n, quartets_ij n T i j)
      (omega (
        arith,
        cells_out old new j n i sizes q new_in (elsewhere_is o Z i (old.all i low) out),
        inner_sum_right Z (leaf n) n (apart_sym Z (leaf n) apart n (leaf_has n)) (leaf_has n),
        inner_sum_leaf n n,
      ))

-- A tree on n leaves, and leaf n on the edge of the number v.
module _ (n : ℕ) (c : IsLeafCount n) (T : Tree) (h : IsTree n T) (v : ℕ) (named : names_edge n v ≡ true) where
  w : PlaceOf (ordered T) n v
  w = edge_place n c T h v named

  old : Stands n T (from_zero w.place) w.tree
  old = tree_stands n c T h w.place w.tree w.whole

  new : Stands (n + 1) (grafted n T v) (from_zero w.place) (node w.tree (leaf n))
  unfolding placed start
  new = grafted_stands n c T h w.place top w.tree v named w.whole w.number

  pub row_in :
      (i : ℕ) → leaves (subtree_at n (standard n T) v) i ≡ true
      → quartets (n + 1) (grafted n T v) i n
      ≡ inner_sum (subtree_at n (standard n T) v) i + P (n - size (subtree_at n (standard n T) v))
  row_in = rw (edge_subtree n c T h v w) (new_cells_in old new)

  pub row_out :
      (i j : ℕ) → i < n → leaves (subtree_at n (standard n T) v) i ≡ false
      → leaves (subtree_at n (standard n T) v) j ≡ true
      → quartets (n + 1) (grafted n T v) i n + inner_sum (subtree_at n (standard n T) v) j
      ≡ quartets n T i j + P (size (subtree_at n (standard n T) v))
  row_out = rw (edge_subtree n c T h v w) (new_cells_out old new)
