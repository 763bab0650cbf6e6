-- The sums of the gaps of a block of cells, as code adds them up. No public contract cites it.
use Rattle.std.specs.Prelude.{◌≡◌, Bool, List, ℕ, ◌+◌, ◌-◌, ◌*◌, ◌^◌, ◌≤◌, eqb, length, get_or}
use Rattle.base.specs.Numbers.{indicator, sum_below, distance}
use Rattle.limits.specs.Limits.{most_leaves, largest_cell, most_scale}
use Rattle.trees.specs.Tables.{cell}

-- a table of n leaves, no cell of which is larger than a tree's can be, and a new table of n + 1
pub record TablesFit (n scale : ℕ) (t u : List ℕ) : Type 0 where
  pub few : n + 1 ≤ most_leaves
  pub cells : length t ≡ n * n
  pub new_cells : length u ≡ (n + 1) * (n + 1)
  pub small : (k : ℕ) → get_or t k 0 ≤ largest_cell
  pub scaled : scale ≤ most_scale

-- the leaves of class x
abbrev pub of_class : List ℕ → ℕ → ℕ → Bool
of_class classes x k = eqb (get_or classes k 0) x

-- the size of the gap at (i, j), where the tree's cell is z larger
abbrev pub gap_with : (n scale z : ℕ) (t u : List ℕ) (i j : ℕ) → ℕ
gap_with n scale z t u i j = distance (cell (n + 1) u i j) (scale * (cell n t i j + z))

-- the largest gap, and the most that n leaves can add up to in a row, and in a block
abbrev pub most_gap : ℕ
most_gap = 2 ^ 32 - 1

abbrev pub most_gaps : ℕ
most_gaps = most_leaves * (most_leaves * most_gap)

-- r is the sum of the gaps of row i in the columns of class y that come before column j
pub record RowAdded (n i scale z : ℕ) (classes t u : List ℕ) (y j r : ℕ) : Type 0 where
  pub sum : r ≡ sum_below j (λ k. indicator (of_class classes y k) (gap_with n scale z t u i k))
  pub small : r ≤ j * most_gap

-- r is the sum of the gaps of row i in the columns of class y, if the row is of class x; else 0
pub record RowOfClass (n i scale z : ℕ) (classes t u : List ℕ) (x y r : ℕ) : Type 0 where
  pub sum :
      r
      ≡ indicator (of_class classes x i) (sum_below n (λ k.
      indicator (of_class classes y k) (gap_with n scale z t u i k)))
  pub small : r ≤ most_leaves * most_gap

-- r is the sum of the gaps of the rows of class x that come before row i, in the columns of class y
pub record RowsAdded (n scale z : ℕ) (classes t u : List ℕ) (x y i r : ℕ) : Type 0 where
  pub sum :
      r
      ≡ sum_below i (λ k. indicator (of_class classes x k) (sum_below n (λ j.
      indicator (of_class classes y j) (gap_with n scale z t u k j))))
  pub small : r ≤ i * (most_leaves * most_gap)
