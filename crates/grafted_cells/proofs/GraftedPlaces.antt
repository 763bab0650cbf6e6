-- A tree and its grafts at one place: each number of an edge is that of a place, and where leaf n is grafted on an edge
-- of the subtree there, only that subtree changes.
use mathlib.Core.Path.{◌≡◌, sym, ◌∙◌}
use mathlib.Core.Bool.{true}
use Prim.Native.Nat.{ℕ, ◌+◌, ◌≤◌}
use native.Mathlib.Omega.{arith}
use Rattle.limits.specs.Limits.{IsLeafCount}
use Rattle.trees.specs.Trees.{Tree, leaf, node, IsTree, ordered}
use Rattle.trees.specs.Listings.{subtree_at, number_in, standard}
use Rattle.trees.proofs.Trees.{tree_on, ordered_drawn}
use Rattle.grafted_trees.specs.Grafts.{names_edge, with_leaf, grafted}
use Rattle.grafted_trees.specs.inner.EdgeNumbers.{edges_at}
use Rattle.grafted_trees.proofs.EdgeNumbers.{edge_once}
use Rattle.grafted_trees.proofs.Grafts.{own_edge, put_above, grafted_tree, grafted_ordered}
use Rattle.grafted_cells.proofs.Places.{Place, placed}
use Rattle.grafted_cells.proofs.PlaceNumbers.{start, edges_placed, with_leaf_placed, PlaceOf, place_of}
use Rattle.grafted_cells.proofs.PlaceNumbers.{subtree_placed}
use Rattle.grafted_cells.proofs.PlacedCells.{from_zero, Stands, stands}

-- A tree on n leaves.
module _ (n : ℕ) (c : IsLeafCount n) (T : Tree) (h : IsTree n T) where
  -- the place of a number
  pub edge_place : (v : ℕ) → names_edge n v ≡ true → PlaceOf (ordered T) n v
  edge_place v named = place_of (ordered T) n v (omega (arith, edge_once n T c.0 h v named))

  -- the subtree that stands there is what the number has under it
  pub edge_subtree : (v : ℕ) (w : PlaceOf (ordered T) n v) → subtree_at n (standard n T) v ≡ w.tree
  unfolding subtree_at standard
  edge_subtree v w =
      rw (← w.number, ← w.whole)
      (subtree_placed w.place w.tree n (rw w.whole (λ k p. ((ordered_drawn n T (tree_on n T h)).only k p).1)))

  pub tree_stands : (o : Place) (Z : Tree) → placed o Z ≡ ordered T → Stands n T (from_zero o) Z
  tree_stands = stands n T (omega (arith, c)) h

  -- Leaf n on the edge above the subtree Z, which stands at a place o' of what stands at the place o.
  module _ (o o' : Place) (Z : Tree) (v : ℕ) (named : names_edge n v ≡ true)
      (whole : placed o (placed o' Z) ≡ ordered T) (number : number_in Z (start o' (start o n)) ≡ v) where
    grafted_placed : grafted n T v ≡ placed o (placed o' (node Z (leaf n)))
    unfolding grafted
    grafted_placed =
        let r' = start o n in
        let r'' = start o' r' in
        let once : edges_at v (placed o (placed o' Z)) n ≡ 1 = rw whole (edge_once n T c.0 h v named) in
        let own : 1 ≤ edges_at v Z r'' = rw (← number) (own_edge Z r'') in
        let outer = with_leaf_placed n v o (placed o' Z) n (omega (arith, edges_placed v o' Z r')) once in
        let inner = with_leaf_placed n v o' Z r' own outer.1 in
        let above : with_leaf n v Z r'' ≡ node Z (leaf n) =
        rw (← number) (put_above n Z r'' (rw number inner.1)) in
        rw (← whole) (rw (outer.0, inner.0, above))

    pub grafted_stands : Stands (n + 1) (grafted n T v) (from_zero o) (placed o' (node Z (leaf n)))
    grafted_stands =
        stands (n + 1) (grafted n T v) (omega arith) (grafted_tree n T c.0 h v named) o (placed o' (node Z (leaf n)))
        (sym (grafted_ordered n T c.0 h v ∙ grafted_placed))
