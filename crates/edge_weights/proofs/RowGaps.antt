-- The row of the new leaf, on the edge above a subtree that the arrays hold: its gaps as code adds them up are those of
-- the grafted tree, since the arrays have the counts of its cells. The tables are small enough for that.
use mathlib.Core.Path.{◌≡◌, ap, sym, ◌∙◌}
use mathlib.Core.Logic.{inl, inr}
use mathlib.Core.Bool.{true}
use mathlib.Core.List.{List}
use Prim.Native.Nat.{ℕ, ◌+◌, ◌-◌, ◌*◌, ◌/◌, ◌%◌, ◌≤◌, ◌<◌}
use native.Mathlib.Nat.{mul-add, div-lt_iff_lt-mul, mod-lt}
use native.Mathlib.Omega.{arith}
use native.Mathlib.Decide.{dec_lt}
use lib.ListN.{get_or, get_or-eq_default}
use Rattle.base.proofs.Bools.{bool?}
use Rattle.base.proofs.Lists.{getD_tab}
use Rattle.base.proofs.Sums.{sum_ext}
use Rattle.limits.specs.Limits.{largest_cell}
use Rattle.trees.specs.Trees.{Tree, leaves, size, IsTree}
use Rattle.trees.specs.Listings.{subtree_at, tree_of}
use Rattle.trees.specs.Quartets.{quartets}
use Rattle.trees.specs.Tables.{cell, table_of, IsTable}
use Rattle.trees.proofs.Trees.{Distinct, Within}
use Rattle.trees.proofs.Rules.{listing_tree}
use Rattle.trees.proofs.Quartets.{quartets_ij, cell_limit}
use Rattle.trees.proofs.Tables.{halves_equal, own_cell, had_is_table, scale_one}
use Rattle.trees.proofs.SubtreesByRow.{distinct_below}
use Rattle.grafted_trees.specs.Grafts.{names_edge, grafted}
use Rattle.grafted_trees.proofs.EdgeNumbers.{edge_range}
use Rattle.grafted_cells.specs.inner.Moves.{new_row_gap}
use Rattle.grafted_cells.proofs.NewRow.{row_in, row_out}
use Rattle.grafted_cells.proofs.MovedLeaf.{child_named}
use Rattle.block_gaps.specs.inner.Blocks.{TablesFit}
use Rattle.state_arrays.specs.inner.Fits.{SmallSums}
use Rattle.state_arrays.proofs.StateArrays.{counts_small}
use Rattle.edge_weights.specs.inner.NewRows.{count_at, row_gap, RowGapFits}
use Rattle.edge_weights.specs.inner.Rows.{Given, Held}
use Rattle.edge_weights.proofs.RowsJoined.{held_most, size_fits}

-- A listing, the table of its tree T, and a new table.
module _ {n s : ℕ} {l t u p : List ℕ} (g : Given n s l t u p) where
  abbrev T : Tree
  T = tree_of n l

  pub own_is_table : IsTable n t
  own_is_table = had_is_table n 1 t T ((scale_one n t T).1 g.is_own)

  cell_small : (k : ℕ) → get_or t k 0 ≤ largest_cell
  cell_small k = elim (dec_lt k (n * n)) [
    | yes inside ↦
        let some : 0 < n = omega (arith, g.count) in
        let limit = cell_limit n g.count T (k / n) (k % n) ((div-lt_iff_lt-mul some).1 inside) (mod-lt k some) in
        rw g.is_own (unfold table_of in rw (getD_tab (n * n) (λ k. quartets n T (k / n) (k % n)) k 0 inside) limit)
    | no outside ↦ rw (get_or-eq_default t 0 {n = k} (omega (arith, own_is_table.cells))) (omega arith)
  ]

  pub tables_fit : TablesFit n s t u
  tables_fit = record {
    few = g.new_count.1;
    cells = own_is_table.cells;
    new_cells = g.is_table.cells;
    small = cell_small;
    scaled = g.scaled.1;
  }

  tree : IsTree n T
  tree = listing_tree n g.count l g.keeps

  -- the numbers that rows name are edges
  pub child_edge : (q : ℕ) → q < 2 * (n - 2) → names_edge n (get_or l q 0) ≡ true
  child_edge = rw g.is_standard at (child_named n g.count T tree)

  -- Leaf n is on the edge of the number e, and the arrays hold the subtree X below it with the label f.
  module _ (e : ℕ) (named : names_edge n e ≡ true) {label m sizes : List ℕ} {f : ℕ}
      (h : Held n s label m sizes f (subtree_at n l e)) where
    abbrev X : Tree
    X = subtree_at n l e

    below : Distinct X × Within n X
    below = distinct_below n l e g.count g.keeps (omega (arith, edge_range n e named, g.count))

    fits : size X ≤ n
    fits = size_fits n X below.0 below.1

    pub row_fits : SmallSums n m → RowGapFits n f (size X) m p
    row_fits small = record {
      first = h.below;
      some = fits;
      small = small;
      small_counts = counts_small n s p g.count.1 g.scaled g.pair_counts;
      covered = rw (g.pair_counts (size X) fits) (held_most h below.0 f h.below h.own);
    }

    count_is :
        (i : ℕ) → i < n
        → count_at (get_or label i 0) f (get_or m i 0 + get_or p (n - size X) 0)
        (s * cell n t f i + (get_or p (size X) 0 - get_or m f 0))
        ≡ s * quartets (n + 1) (grafted n T e) i n
    unfolding count_at
    count_is i li = rw (h.labelled i li) (elim (bool? (leaves X i)) [
      | inl here ↦
          rw (here, h.sums i li here, g.pair_counts (n - size X) (omega arith))
          (rw ((rw g.is_standard at (row_in n g.count T tree e named i)) here) (sym (mul-add s _ _)))
      | inr out ↦
          let row = (rw g.is_standard at (row_out n g.count T tree e named i f li)) out h.own in
          let scaled = sym (mul-add s _ _) ∙ ap (λ z. s * z) row ∙ mul-add s _ _ in
          let old_cell = own_cell n T f i h.below li ∙ quartets_ij n T f i in
          let covered = held_most h below.0 f h.below h.own in
          let inner = h.sums f h.below h.own in
          rw (out, g.pair_counts (size X) fits, g.is_own, old_cell) (omega arith)
    ])

    pub row_is : row_gap n f (size X) s label m p t u n ≡ new_row_gap n s u T e
    unfolding row_gap new_row_gap
    row_is = sum_ext n _ _ (λ i li. rw (halves_equal g.is_table n i (omega arith) (omega arith), count_is i li))
