-- Leaf n moves in a grafted tree, from the edge above the node of a row to the edge above its first or second child:
-- only the cells between the children change, and those between the other child and the leaves beyond. The three edges
-- are at one place of the tree, so that the law of cells holds for both children.
use mathlib.Core.Path.{◌≡◌, sym, ◌∙◌}
use mathlib.Core.Bool.{true}
use Prim.Native.Nat.{ℕ, ◌+◌, ◌-◌, ◌*◌, ◌<◌}
use native.Mathlib.Omega.{arith}
use lib.ListN.{length, get_or}
use Rattle.limits.specs.Limits.{IsLeafCount}
use Rattle.trees.specs.Trees.{Tree, leaf, node, IsTree, ordered}
use Rattle.trees.specs.Listings.{KeepsRules, subtree_at, number_in, standard}
use Rattle.trees.proofs.Listings.{tree_listing}
use Rattle.trees.proofs.SubtreesByRow.{child_before, subtree_at_row, child_positive}
use Rattle.grafted_trees.specs.Grafts.{names_edge, grafted}
use Rattle.grafted_trees.proofs.EdgeNumbers.{range_edge}
use Rattle.grafted_cells.specs.inner.Moves.{Moved}
use Rattle.grafted_cells.proofs.Places.{Side, first, second, beside, Place, top, below, placed}
use Rattle.grafted_cells.proofs.PlaceNumbers.{start, PlaceOf, first_child, second_child}
use Rattle.grafted_cells.proofs.PlacedCells.{from_zero, Stands}
use Rattle.grafted_cells.proofs.GraftedPlaces.{edge_place, edge_subtree, tree_stands, grafted_stands}
use Rattle.grafted_cells.proofs.MovedCells.{cells_inside, cells_outside, cells_same}

-- the law of the cells, for two grafts of one tree
moved :
    (n : ℕ) (T : Tree) (c a : ℕ) (o : Place) (s : Side) (A B : Tree) → Stands n T o (beside s B A)
    → Stands (n + 1) (grafted n T c) o (node (beside s B A) (leaf n))
    → Stands (n + 1) (grafted n T a) o (beside s B (node A (leaf n))) → Moved n T c a A B
moved n T c a o s A B old above inside = record {
  inside = cells_inside n s A B old above inside;
  outside = cells_outside n s A B old above inside;
  same = cells_same n s A B old above inside;
}

-- The standard listing of a tree on n leaves.
module _ (n : ℕ) (count : IsLeafCount n) (T : Tree) (h : IsTree n T) where
  keeps : KeepsRules n (standard n T)
  keeps = (tree_listing n count T h).0

  -- the numbers that rows name are edges
  pub child_named : (p : ℕ) → p < 2 * (n - 2) → names_edge n (get_or (standard n T) p 0) ≡ true
  child_named p less =
      let there : p < length (standard n T) = omega (arith, keeps.numbers) in
      let positive = child_positive n (standard n T) (omega (arith, count)) keeps p there in
      let early = child_before n (standard n T) count keeps p there in
      range_edge n (get_or (standard n T) p 0) positive (omega arith)

  -- Its row k: the node n + k has the children a and b, which have A and B under them.
  module _ (k : ℕ) (row : k < n - 2) where
    abbrev a : ℕ
    a = get_or (standard n T) (2 * k) 0

    abbrev b : ℕ
    b = get_or (standard n T) (2 * k + 1) 0

    abbrev A : Tree
    A = subtree_at n (standard n T) (get_or (standard n T) (2 * k) 0)

    abbrev B : Tree
    B = subtree_at n (standard n T) (get_or (standard n T) (2 * k + 1) 0)

    named : names_edge n (n + k) ≡ true
    named = range_edge n (n + k) (omega (arith, count)) (omega arith)

    w : PlaceOf (ordered T) n (n + k)
    w = edge_place n count T h (n + k) named

    node_is : w.tree ≡ node A B
    node_is =
        sym (edge_subtree n count T h (n + k) w) ∙ subtree_at_row n (standard n T) count keeps k row

    whole : placed w.place (node A B) ≡ ordered T
    whole = rw (← node_is) w.whole

    number : number_in (node A B) (start w.place n) ≡ n + k
    number = rw (← node_is) w.number

    old : Stands n T (from_zero w.place) (node A B)
    old = tree_stands n count T h w.place (node A B) whole

    above : Stands (n + 1) (grafted n T (n + k)) (from_zero w.place) (node (node A B) (leaf n))
    unfolding placed start
    above = grafted_stands n count T h w.place top (node A B) (n + k) named whole number

    above_first : Stands (n + 1) (grafted n T a) (from_zero w.place) (node (node A (leaf n)) B)
    unfolding placed start beside standard
    above_first =
        grafted_stands n count T h w.place (below first B top) A a (child_named (2 * k) (omega arith)) whole
        (sym (rw whole at (first_child w.place A B n k (sym number))))

    above_second : Stands (n + 1) (grafted n T b) (from_zero w.place) (node A (node B (leaf n)))
    unfolding placed start beside standard
    above_second =
        grafted_stands n count T h w.place (below second A top) B b (child_named (2 * k + 1) (omega arith)) whole
        (sym (rw whole at (second_child w.place A B n k (sym number))))

    pub moved_first :
        Moved n T (n + k) (get_or (standard n T) (2 * k) 0)
        (subtree_at n (standard n T) (get_or (standard n T) (2 * k) 0))
        (subtree_at n (standard n T) (get_or (standard n T) (2 * k + 1) 0))
    unfolding beside
    moved_first = moved n T (n + k) a (from_zero w.place) first A B old above above_first

    pub moved_second :
        Moved n T (n + k) (get_or (standard n T) (2 * k + 1) 0)
        (subtree_at n (standard n T) (get_or (standard n T) (2 * k + 1) 0))
        (subtree_at n (standard n T) (get_or (standard n T) (2 * k) 0))
    unfolding beside
    moved_second = moved n T (n + k) b (from_zero w.place) second B A old above above_second
