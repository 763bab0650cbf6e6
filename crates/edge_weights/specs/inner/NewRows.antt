-- The row of the new leaf as code counts it, by the labels. No public contract cites it.
use Rattle.std.specs.Prelude.{◌≡◌, cond, List, ℕ, ◌+◌, ◌-◌, ◌*◌, ◌≤◌, ◌<◌, eqb, get_or}
use Rattle.base.specs.Numbers.{sum_below, distance}
use Rattle.trees.specs.Tables.{cell}
use Rattle.block_gaps.specs.inner.Blocks.{most_gap}
use Rattle.state_arrays.specs.inner.Fits.{SmallSums}

-- the count of a cell: that of a leaf with the label f, or of another
unfoldable pub count_at : (label f near far : ℕ) → ℕ
count_at label f near far = cond (eqb label f) near far

-- the gaps of the first j cells of the row of leaf n, on the edge above the subtree of `size` leaves labelled f: a leaf
-- below the edge counts its m and the pairs that are not below it; another what it has with leaf f, and the pairs below
-- the edge in the place of those that leaf f has there
unfoldable pub row_gap : (n f size s : ℕ) (label m p t u : List ℕ) → ℕ → ℕ
row_gap n f size s label m p t u j =
    sum_below j (λ i. distance (cell (n + 1) u n i)
    (count_at (get_or label i 0) f (get_or m i 0 + get_or p (n - size) 0)
    (s * cell n t f i + (get_or p size 0 - get_or m f 0))))

-- r is their sum
pub record RowGapAdded (n f size s : ℕ) (label m p t u : List ℕ) (j r : ℕ) : Type 0 where
  pub sum : r ≡ row_gap n f size s label m p t u j
  pub small : r ≤ j * most_gap

-- what is asked of the subtree and of the arrays, so that no sum wraps and no difference falls below 0
pub record RowGapFits (n f size : ℕ) (m p : List ℕ) : Type 0 where
  pub first : f < n
  pub some : size ≤ n
  pub small : SmallSums n m
  pub small_counts : SmallSums (n + 1) p
  pub covered : get_or m f 0 ≤ get_or p size 0
