-- The total gap of a grafted tree where the new leaf moves from the edge above a node to that above one of its
-- children. The total is a sum over the old pairs and the row of the new leaf. Of the old pairs only those in two
-- blocks change, so the two totals differ by the gaps in these blocks and in the row. Laws of the gaps in a block.
use mathlib.Core.Path.{◌≡◌, sym, ◌∙◌}
use mathlib.Core.Bool.{true, ◌&&◌, and_comm, or-true}
use mathlib.Core.List.{List}
use Prim.Native.Nat.{ℕ, ◌+◌, ◌-◌, ◌*◌, ◌<◌}
use native.Mathlib.Nat.{add-zero}
use native.Mathlib.Omega.{arith}
use Rattle.base.specs.Numbers.{indicator, sum_below, pair_sum, distance}
use Rattle.base.proofs.Bools.{and_both}
use Rattle.base.proofs.Counts.{indicator_when}
use Rattle.base.proofs.Sums.{sum_ext, sum_swap, indicator_each, sum2_ext, pair_sum_more}
use Rattle.base.proofs.BlockSums.{Disjoint, Symmetric, block_sum, blocks_change}
use Rattle.trees.specs.Trees.{Tree, LeafSet, leaves, size}
use Rattle.trees.specs.Quartets.{quartets}
use Rattle.trees.specs.Tables.{cell, table_of, IsTable}
use Rattle.trees.specs.Gaps.{gap_size, total_gap}
use Rattle.trees.proofs.Trees.{Apart}
use Rattle.trees.proofs.Quartets.{quartets_ij}
use Rattle.trees.proofs.Tables.{halves_equal, own_cell}
use Rattle.grafted_trees.specs.Grafts.{grafted}
use Rattle.grafted_cells.specs.inner.Moves.{beyond, Moved, block_gap, new_row_gap}

-- The gaps in a block: by rows, with the two sets exchanged, and for equal sets.
module _ (n s z : ℕ) (t u : List ℕ) (X Y : LeafSet) where
  pub block_gap_rows :
      block_gap n s z t u X Y
      ≡ sum_below n (λ i. indicator (X i) (sum_below n (λ j.
      indicator (Y j) (distance (cell (n + 1) u i j) (s * (cell n t i j + z))))))
  unfolding block_gap
  block_gap_rows = sum_ext n _ _ (λ i l. sym (indicator_each (X i) n Y _))

  pub block_gap_turn : IsTable (n + 1) u → IsTable n t → block_gap n s z t u X Y ≡ block_gap n s z t u Y X
  unfolding block_gap
  block_gap_turn new old = sum_swap n n _ ∙ sum2_ext n _ _ (λ j i lj li.
      rw (and_comm (X i) (Y j), halves_equal new i j (omega arith) (omega arith), halves_equal old i j li lj))

  pub block_gap_ext :
      (X' Y' : LeafSet) → ((k : ℕ) → k < n → X k ≡ X' k) → ((k : ℕ) → k < n → Y k ≡ Y' k)
      → block_gap n s z t u X Y ≡ block_gap n s z t u X' Y'
  unfolding block_gap
  block_gap_ext X' Y' hx hy = sum2_ext n _ _ (λ i j li lj. rw (hx i li, hy j lj))

module _ (n s : ℕ) (u : List ℕ) where
  -- the total gap over n + 1 leaves: that of the old pairs, and the row of the new leaf
  pub total_old_and_new :
      (H : Tree)
      → total_gap (n + 1) s u H
      ≡ pair_sum n (gap_size (n + 1) s u H) + sum_below n (λ i. gap_size (n + 1) s u H i n)
  unfolding total_gap
  total_old_and_new H = pair_sum_more n (gap_size (n + 1) s u H)

  -- with the gaps of the row by their name
  total_grafted :
      (T : Tree) (e : ℕ)
      → total_gap (n + 1) s u (grafted n T e)
      ≡ pair_sum n (gap_size (n + 1) s u (grafted n T e)) + new_row_gap n s u T e
  unfolding new_row_gap gap_size
  total_grafted T e = total_old_and_new (grafted n T e)

  gap_symmetric : IsTable (n + 1) u → (H : Tree) → Symmetric n (gap_size (n + 1) s u H)
  unfolding gap_size
  gap_symmetric new H i j li lj = rw (halves_equal new i j (omega arith) (omega arith), quartets_ij (n + 1) H i j)

-- the leaves beyond two subtrees are in neither
beyond_left : (A B : Tree) → Disjoint (leaves A) (beyond A B)
unfolding beyond
beyond_left A B k h = rw h

beyond_right : (A B : Tree) → Disjoint (leaves B) (beyond A B)
unfolding beyond
beyond_right A B k h = rw (h, or-true (leaves A k))

-- leaf n moves from the edge c above a node to the edge a above its child A
pub moved_total :
    (n s : ℕ) (T : Tree) (t u : List ℕ) (c a : ℕ) (A B : Tree) → Moved n T c a A B → Apart A B → IsTable (n + 1) u
    → t ≡ table_of n T
    → total_gap (n + 1) s u (grafted n T a)
    + (block_gap n s (n - (size A + size B)) t u (leaves A) (leaves B)
    + block_gap n s 0 t u (leaves B) (beyond A B)
    + new_row_gap n s u T c)
    ≡ total_gap (n + 1) s u (grafted n T c)
    + (block_gap n s 0 t u (leaves A) (leaves B)
    + block_gap n s (size A) t u (leaves B) (beyond A B)
    + new_row_gap n s u T a)
moved_total n s T t u c a A B moved apart new own =
    let inside_c =
    block c (n - (size A + size B)) (leaves A) (leaves B) (λ i j lj p q. (moved.inside i j p q).0) in
    let inside_a = block a 0 (leaves A) (leaves B) (λ i j lj p q. rw add-zero (moved.inside i j p q).1) in
    let outside_c = block c 0 (leaves B) (beyond A B) (λ i j lj p q. rw add-zero (moved.outside i j p lj q).0) in
    let outside_a = block a (size A) (leaves B) (beyond A B) (λ i j lj p q. (moved.outside i j p lj q).1) in
    let old_pairs =
    blocks_change n (leaves A) (leaves B) (beyond A B) (gap c) (gap a) apart (beyond_left A B) (beyond_right A B)
    (gap_symmetric n s u new (grafted n T c)) (gap_symmetric n s u new (grafted n T a)) (λ i j li lj d p q.
    unfold gap_size in rw (moved.same i j li lj d p q)) in
    omega (arith, total_grafted n s u T a, total_grafted n s u T c)
  where
    gap : ℕ → ℕ → ℕ → ℕ
    gap e = gap_size (n + 1) s u (grafted n T e)

    -- a block in which the tree with leaf n on the edge e has cells z larger than before
    block :
        (e z : ℕ) (X Y : LeafSet)
        → ((i j : ℕ) → j < n → X i ≡ true → Y j ≡ true → quartets (n + 1) (grafted n T e) i j ≡ quartets n T i j + z)
        → block_sum n X Y (gap e) ≡ block_gap n s z t u X Y
    block e z X Y cells =
        unfold block_gap gap_size in sum2_ext n _ _ (λ i j li lj. indicator_when (X i && Y j) _ _ (λ p.
        let b = and_both (X i) (Y j) p in rw (cells i j lj b.0 b.1, own, own_cell n T i j li lj)))
