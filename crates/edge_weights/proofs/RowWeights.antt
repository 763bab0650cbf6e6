-- The weights of a row's children: the sums that code takes of the blocks of two classes, and of the new leaf's row,
-- are what a move of leaf n to a child's edge adds to the total gap and takes from it.
use mathlib.Core.Path.{◌≡◌, ◌∙◌}
use mathlib.Core.List.{List}
use Prim.Native.Nat.{ℕ, ◌+◌, ◌-◌, ◌*◌, ◌<◌}
use native.Mathlib.Nat.{add_comm}
use native.Mathlib.Omega.{arith}
use lib.ListN.{get_or}
use Rattle.trees.specs.Trees.{Tree, leaves, size}
use Rattle.trees.specs.Listings.{subtree_at, tree_of}
use Rattle.trees.proofs.Trees.{Apart}
use Rattle.grafted_cells.specs.inner.Moves.{beyond, block_gap}
use Rattle.grafted_cells.proofs.Totals.{block_gap_turn}
use Rattle.block_gaps.specs.inner.Blocks.{of_class}
use Rattle.edge_weights.specs.inner.Classes.{Classified}
use Rattle.edge_weights.specs.inner.Rows.{Given, BeforeRow}
use Rattle.edge_weights.specs.inner.Weights.{Weighed, ChildWeighed}
use Rattle.edge_weights.proofs.RowsJoined.{node_distinct, first_held, second_held}
use Rattle.edge_weights.proofs.RowClasses.{block_inside, block_first, block_second}
use Rattle.edge_weights.proofs.RowGaps.{own_is_table, child_edge, row_is}

-- Row k: the numbers x and y are its children, with the labels a and b and the subtrees A and B.
module _ {n s : ℕ} {l t u p : List ℕ} (g : Given n s l t u p) {k : ℕ} (row : k < n - 2) where
  abbrev x : ℕ
  x = get_or l (2 * k) 0

  abbrev y : ℕ
  y = get_or l (2 * k + 1) 0

  abbrev A : Tree
  A = subtree_at n l (get_or l (2 * k) 0)

  abbrev B : Tree
  B = subtree_at n l (get_or l (2 * k + 1) 0)

  apart : Apart A B
  apart = (node_distinct g row).2

  -- The classes of the leaves before the row.
  module _ {label m sizes firsts : List ℕ} (w : BeforeRow n s l k label m sizes firsts) where
    abbrev a : ℕ
    a = get_or firsts (get_or l (2 * k) 0) 0

    abbrev b : ℕ
    b = get_or firsts (get_or l (2 * k + 1) 0) 0

    module _ (classes : List ℕ) (classified : Classified n label a b classes) where
      inside :
          (z : ℕ)
          → block_gap n s z t u (of_class classes 1) (of_class classes 2) ≡ block_gap n s z t u (leaves A) (leaves B)
      inside z = block_inside (first_held g row w) (second_held g row w) apart classes classified z t u

      inside_turned :
          (z : ℕ)
          → block_gap n s z t u (of_class classes 1) (of_class classes 2) ≡ block_gap n s z t u (leaves B) (leaves A)
      inside_turned z = inside z ∙ block_gap_turn n s z t u (leaves A) (leaves B) g.is_table (own_is_table g)

      outside_first :
          (z : ℕ)
          → block_gap n s z t u (of_class classes 1) (of_class classes 0) ≡ block_gap n s z t u (leaves A) (beyond B A)
      outside_first z = block_first (first_held g row w) (second_held g row w) apart classes classified z t u

      outside_second :
          (z : ℕ)
          → block_gap n s z t u (of_class classes 2) (of_class classes 0) ≡ block_gap n s z t u (leaves B) (beyond A B)
      outside_second z = block_second (first_held g row w) (second_held g row w) apart classes classified z t u

      -- what code has of the block between the two, and of each child
      module _ {i i' : ℕ} (between : i ≡ block_gap n s 0 t u (of_class classes 1) (of_class classes 2))
          (larger : i' ≡ block_gap n s (n - (size A + size B)) t u (of_class classes 1) (of_class classes 2))
          {gain loss r : ℕ} where
        pub weighed_first :
            ChildWeighed n a (size A) 2 i i' s classes label m p t u gain loss r
            → Weighed n s t u (tree_of n l) x A B gain loss r
        weighed_first h =
            let the_row = row_is g x (child_edge g (2 * k) (omega arith)) (first_held g row w) in
            record {
              gained = h.gained ∙ rw (between, inside 0, outside_second (size A), the_row);
              lost = h.lost ∙ rw (larger, inside (n - (size A + size B)), outside_second 0);
              in_row = h.in_row ∙ the_row;
              gain_small = h.gain_small;
            }

        pub weighed_second :
            ChildWeighed n b (size B) 1 i i' s classes label m p t u gain loss r
            → Weighed n s t u (tree_of n l) y B A gain loss r
        weighed_second h =
            let the_row = row_is g y (child_edge g (2 * k + 1) (omega arith)) (second_held g row w) in
            record {
              gained = h.gained ∙ rw (between, inside_turned 0, outside_first (size B), the_row);
              lost =
                  h.lost
                  ∙ rw (
                    larger,
                    add_comm (size B) (size A),
                    inside_turned (n - (size A + size B)),
                    outside_first 0,
                  );
              in_row = h.in_row ∙ the_row;
              gain_small = h.gain_small;
            }
