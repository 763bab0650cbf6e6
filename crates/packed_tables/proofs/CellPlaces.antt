-- Where cell (i, j) stands among those above the diagonal, by a product; that this is below P(n), and no other cell's
-- place; that the products are small; and the two bytes of a cell.
use mathlib.Core.Path.{◌≡◌}
use mathlib.Core.Logic.{◌≢◌}
use mathlib.Core.List.{List}
use Prim.Native.Nat.{ℕ, zero, suc, ◌+◌, ◌-◌, ◌*◌, ◌/◌, ◌≤◌, ◌<◌}
use native.Mathlib.Nat.{mul-le-mul, mul-le-mul_left}
use native.Mathlib.Omega.{arith}
use native.Mathlib.Decide.{dec_lt}
use lib.ListN.{get_or, take, drop}
use Rattle.base.specs.Numbers.{sum_below}
use Rattle.base.proofs.Lists.{getD_tab}
use Rattle.limits.specs.Limits.{most_leaves}
use Rattle.pair_counts.specs.Pairs.{P}
use Rattle.pair_counts.proofs.Pairs.{P_suc, P_double, P_mono}
use Rattle.byte_numbers.specs.Bytes.{number}
use Rattle.packed_tables.specs.Packed.{cells_before, packed_cells}

-- the cells of the rows before row i, by a product
abbrev rows : ℕ → ℕ → ℕ
rows n i = sum_below i (λ r. n - (r + 1))

rows_twice : (n i : ℕ) → i ≤ n → 2 * rows n i + i * (i + 1) ≡ 2 * (i * n)
unfolding sum_below
rows_twice n zero h = omega arith
rows_twice n (suc i) h = omega (arith, rows_twice n i (omega arith))

-- row i and those after it hold the others
rows_rest : (n i : ℕ) → i ≤ n → rows n i + P (n - i) ≡ P n
unfolding sum_below
rows_rest n zero h = let e : n - 0 ≡ n = omega arith in rw e (omega arith)
rows_rest n (suc i) h =
    let e : n - i ≡ suc (n - suc i) = omega arith in
    omega (arith, rw (e, P_suc (n - suc i)) at (rows_rest n i (omega arith)))

-- the place of cell (i, j), as code computes it, is below P(n)
module _ (n i j : ℕ) (h : i < j) (l : j < n) where
  pub place_is : cells_before n i j ≡ i * n - i * (i + 1) / 2 + (j - i - 1)
  unfolding cells_before
  place_is = omega (arith, rows_twice n i (omega arith))

  pub place_below : cells_before n i j < P n
  unfolding cells_before
  place_below =
      let e : n - i ≡ suc (n - suc i) = omega arith in
      omega (arith, rw (e, P_suc (n - suc i)) at (rows_rest n i (omega arith)))

  -- its two bytes are among those of the table
  pub cell_inside : 2 * cells_before n i j + 2 ≤ n * (n - 1)
  cell_inside = omega (arith, P_double n, place_below)

  -- it stands before those of every later row
  place_before : (x y : ℕ) → i < x → x < n → cells_before n i j < cells_before n x y
  unfolding cells_before sum_below
  place_before x y b m =
      let fewer = P_mono (n - x) (n - suc i) (omega arith) in
      omega (arith, fewer, rows_rest n (suc i) (omega arith), rows_rest n x (omega arith))

-- different cells have different places
pub places_differ :
    (n i j x y : ℕ) → i < j → j < n → x < y → y < n → (x ≡ i → y ≡ j → ⊥) → cells_before n x y ≢ cells_before n i j
unfolding cells_before
places_differ n i j x y h l k m d e = elim (dec_lt i x) [
  | yes b ↦ omega (arith, place_before n i j h l x y b (omega arith))
  | no g ↦ elim (dec_lt x i) [
    | yes b ↦ omega (arith, place_before n x y k m i j b (omega arith))
    | no f ↦
        let s : x ≡ i = omega arith in
        d s (omega (arith, rw s at e))
  ]
]

-- its products, for a leaf count of at most 128
module _ (n i : ℕ) (few : n ≤ most_leaves) (h : i < n) where
  pub row_small : i * n ≤ most_leaves * most_leaves
  row_small = let l : i ≤ most_leaves = omega arith in mul-le-mul l few

  pub half_below : i * (i + 1) ≤ i * n
  half_below = let l : i + 1 ≤ n = omega arith in mul-le-mul_left i l

-- the cell at place k stands in the two bytes from 2k on
pub cell_in_bytes :
    (n : ℕ) (B : List ℕ) (k : ℕ) → k < P n → get_or (packed_cells n B) k 0 ≡ number (take 2 (drop (2 * k) B))
unfolding packed_cells
cell_in_bytes n B k h = getD_tab (P n) (λ k. number (take 2 (drop (2 * k) B))) k 0 h
