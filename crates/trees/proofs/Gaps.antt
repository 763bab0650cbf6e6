-- The total gap is 0 exactly when the tree has the table, and it fits 48 bits where the cells fit 32.
use mathlib.Core.Path.{◌≡◌, refl}
use mathlib.Core.Logic.{◌↔◌}
use mathlib.Core.List.{List, [], ◌∷◌}
use Prim.Native.Nat.{ℕ, ◌-◌, ◌*◌, ◌^◌, ◌≤◌, ◌<◌}
use native.Mathlib.Nat.{mul-le-mul, mul-le-mul_left, mul-le-mul_right}
use native.Mathlib.Omega.{arith}
use native.Mathlib.Decide.{dec_lt}
use borrow.Author.Tests.{eqb-true, eq-eqb}
use lib.Dec.{eqb}
use Rattle.base.specs.Numbers.{count_below, sum_below, pair_sum, distance}
use Rattle.base.specs.Lists.{any_in}
use Rattle.base.proofs.Bools.{bool_iff}
use Rattle.base.proofs.Sums.{pair_sum_ext, zero_pair_sum, pair_sum_zero, pair_sum_le}
use Rattle.base.proofs.Sums.{distance_same, distance_zero, distance_most}
use Rattle.limits.specs.Limits.{IsLeafCount, largest_cell}
use Rattle.pair_counts.specs.Pairs.{pairs_below}
use Rattle.trees.specs.Trees.{Tree, leaf, node, leaves, ordered}
use Rattle.trees.specs.Edges.{edges}
use Rattle.trees.specs.Quartets.{separates, paired, other, quartets}
use Rattle.trees.specs.Tables.{cell, HasTable, is_own_table, IsTable}
use Rattle.trees.specs.Gaps.{gap_size, total_gap}
use Rattle.trees.proofs.Quartets.{quartets_ij, ordered_quartets, cell_limit}
use Rattle.trees.proofs.Tables.{halves_equal, HasCells, to_cells, of_cells, scale_one, own_exactly}

-- three leaves have no quartet: each cell above the diagonal is a gap
gap_example :
    total_gap 3 1 (0 ∷ 1 ∷ 2 ∷ 1 ∷ 0 ∷ 4 ∷ 2 ∷ 4 ∷ 0 ∷ []) (node (leaf 1) (leaf 2)) ≡ 7
unfolding
    total_gap gap_size pair_sum sum_below distance cell quartets pairs_below count_below other paired edges any_in
    separates leaves
gap_example = refl

module _ (n s : ℕ) (t : List ℕ) (T : Tree) where
  pub gap_none : HasTable n s t T → total_gap n s t T ≡ 0
  unfolding total_gap gap_size
  gap_none h = zero_pair_sum n _ (λ i j l m.
      rw (to_cells n s t T h i j (omega arith) m (omega arith)) (distance_same (s * quartets n T i j)))

  -- no gap above the diagonal
  above : total_gap n s t T ≡ 0 → (i j : ℕ) → i < j → j < n → cell n t i j ≡ s * quartets n T i j
  unfolding total_gap gap_size
  above h i j l m = distance_zero _ _ (pair_sum_zero n (gap_size n s t T) h i j l m)

  -- the total gap is 0 exactly when the tree has the table
  pub gap_zero : IsTable n t → (total_gap n s t T ≡ 0) ↔ HasTable n s t T
  gap_zero is = (λ h. of_cells n s t T is (all h), gap_none)
    where
      all : total_gap n s t T ≡ 0 → HasCells n s (cell n t) T
      all h i j li lj d = elim (dec_lt i j) [
        | yes l ↦ above h i j l lj
        | no g ↦ rw (halves_equal is i j li lj, quartets_ij n T i j) (above h j i (omega arith) li)
      ]

  -- standard order changes no gap
  pub ordered_gap : total_gap n s t (ordered T) ≡ total_gap n s t T
  unfolding total_gap gap_size
  ordered_gap = pair_sum_ext n _ _ (λ i j l m. rw (ordered_quartets n T i j))

  -- no total is too large for 48 bits, also where the limit on the leaves is 255
  pub gap_fits :
      IsLeafCount n → s * largest_cell < 2 ^ 32 → ((i j : ℕ) → i < n → j < n → cell n t i j < 2 ^ 32)
      → total_gap n s t T < 2 ^ 48
  unfolding total_gap gap_size
  gap_fits c few cells =
      let all = pair_sum_le n (gap_size n s t T) (2 ^ 32 - 1) each in
      let row = mul-le-mul c.1 (mul-le-mul_right (2 ^ 32 - 1) c.1) in
      omega (arith, all, row)
    where
      each : (i j : ℕ) → i < j → j < n → distance (cell n t i j) (s * quartets n T i j) ≤ 2 ^ 32 - 1
      each i j l m =
          let count = mul-le-mul_left s (cell_limit n c T i j (omega arith) m) in
          distance_most _ _ _ (omega (arith, cells i j (omega arith) m)) (omega (arith, count))

-- a table with a zero diagonal and equal halves is the tree's own exactly when its total gap is 0
pub own_by_gap :
    (n : ℕ) (t : List ℕ) (T : Tree) → IsTable n t → is_own_table n t T ≡ eqb (total_gap n 1 t T) 0
own_by_gap n t T is =
    bool_iff _ _
    (λ h. eq-eqb _ _ (gap_none n 1 t T ((scale_one n t T).1 ((own_exactly n t T is.cells).0 h))))
    (λ h. (own_exactly n t T is.cells).1 ((scale_one n t T).0 ((gap_zero n 1 t T is).0 (eqb-true _ _ h))))
