-- The gaps of a block, added up: no cell, one more, and a whole row; no row, one more, and the whole block.
use mathlib.Core.Path.{◌≡◌, refl, sym, ◌∙◌}
use mathlib.Core.Bool.{true, false}
use mathlib.Core.List.{List}
use Prim.Native.Nat.{ℕ, ◌+◌, ◌*◌, ◌^◌, ◌≤◌, ◌<◌}
use native.Mathlib.Nat.{mul-le-mul, mul-le-mul_right}
use native.Mathlib.Omega.{arith}
use lib.Dec.{eqb}
use lib.ListN.{length, get_or}
use Rattle.base.specs.Numbers.{indicator, sum_below}
use Rattle.base.proofs.Sums.{sum_more}
use Rattle.base.proofs.Lists.{place}
use Rattle.limits.specs.Limits.{most_leaves, most_cells, largest_cell, most_scale}
use Rattle.grafted_cells.specs.inner.Moves.{block_gap}
use Rattle.grafted_cells.proofs.Totals.{block_gap_rows}
use Rattle.block_gaps.specs.inner.Blocks.{TablesFit, of_class, gap_with, most_gap, most_gaps}
use Rattle.block_gaps.specs.inner.Blocks.{RowAdded, RowOfClass, RowsAdded}

-- the places of cells
module _ {n scale : ℕ} {t u : List ℕ} (fit : TablesFit n scale t u) {i j : ℕ} where
  pub old_place : i < n → j < n → (i * n + j < most_cells) × (i * n + j < length t)
  old_place li lj =
      let here = place n i j li lj in
      let square = mul-le-mul fit.few fit.few in
      let less : n * n ≤ (n + 1) * (n + 1) = mul-le-mul (omega arith) (omega arith) in
      (omega (arith, here, square, less), omega (arith, here, fit.cells))

  pub new_place : i < n + 1 → j < n + 1 → (i * (n + 1) + j < most_cells) × (i * (n + 1) + j < length u)
  new_place li lj =
      let here = place (n + 1) i j li lj in
      let square = mul-le-mul fit.few fit.few in
      (omega (arith, here, square), omega (arith, here, fit.new_cells))

-- no product of a cell, or of one that is so many larger, is too large
pub scaled_small :
    {n scale : ℕ} {t u : List ℕ} → TablesFit n scale t u → (k more : ℕ) → more ≤ most_leaves
    → scale * (get_or t k 0 + more) ≤ most_scale * (largest_cell + most_leaves)
scaled_small {t = t} fit k more l =
    let few : get_or t k 0 + more ≤ largest_cell + most_leaves = omega (arith, fit.small k) in
    mul-le-mul fit.scaled few

-- a row: no cell, and one more
module _ {n i scale z y : ℕ} {classes t u : List ℕ} where
  pub row_begun : RowAdded n i scale z classes t u y 0 0
  unfolding sum_below
  row_begun = record { sum = refl; small = omega arith }

  pub row_more :
      {j r d g : ℕ} → RowAdded n i scale z classes t u y j r → g ≡ indicator (eqb (get_or classes j 0) y) d → g ≤ d
      → d ≡ gap_with n scale z t u i j → d < 2 ^ 32 → RowAdded n i scale z classes t u y (j + 1) (r + g)
  row_more {j = j} a e l f small = record {
    sum = rw (sum_more j, a.sum, e, f);
    small = omega (arith, a.small);
  }

  -- a whole row of class x, and one of another
  pub row_of_class :
      {x r : ℕ} → n + 1 ≤ most_leaves → of_class classes x i ≡ true → RowAdded n i scale z classes t u y n r
      → RowOfClass n i scale z classes t u x y r
  row_of_class few h a = record {
    sum = rw h a.sum;
    small =
        let less : n ≤ most_leaves = omega arith in
        omega (arith, a.small, mul-le-mul_right most_gap less);
  }

  pub row_of_other :
      {x : ℕ} → of_class classes x i ≡ false → RowOfClass n i scale z classes t u x y 0
  row_of_other h = record { sum = rw h; small = omega arith }

-- a block: no row, one more, and all
module _ {n scale z x y : ℕ} {classes t u : List ℕ} where
  pub rows_begun : RowsAdded n scale z classes t u x y 0 0
  unfolding sum_below
  rows_begun = record { sum = refl; small = omega arith }

  pub rows_more :
      {i r g : ℕ} → RowsAdded n scale z classes t u x y i r → RowOfClass n i scale z classes t u x y g
      → RowsAdded n scale z classes t u x y (i + 1) (r + g)
  rows_more {i = i} a b = record {
    sum = rw (sum_more i, a.sum, b.sum);
    small = omega (arith, a.small, b.small);
  }

  pub block_made :
      {i r : ℕ} → n + 1 ≤ most_leaves → i ≡ n → RowsAdded n scale z classes t u x y i r
      → (r ≡ block_gap n scale z t u (of_class classes x) (of_class classes y)) × (r ≤ most_gaps)
  block_made {i} few e a = (
    rw e at a.sum ∙ sym (block_gap_rows n scale z t u (of_class classes x) (of_class classes y)),
    (let all = mul-le-mul_right (most_leaves * most_gap) few in
        let less : i ≤ most_leaves = omega arith in
        omega (arith, a.small, mul-le-mul_right (most_leaves * most_gap) less)),
  )
