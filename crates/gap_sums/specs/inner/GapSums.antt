-- The sums of a guess as code keeps them: of the subtrees labelled i < j, the sizes of the gaps of their cells from the
-- values expected, added up. The arrays are those of a rebuild: labels, m and sizes; p holds the pair counts. These and
-- m are at the scale of the table t.
use Rattle.std.specs.Prelude.{◌≡◌, ◌≢◌, cond, List, ℕ, ◌+◌, ◌-◌, ◌*◌, ◌≤◌, ◌<◌, eqb, length, get_or}
use Rattle.base.specs.Numbers.{indicator, sum_below, distance}
use Rattle.limits.specs.Limits.{most_leaves, most_pairs}
use Rattle.trees.specs.Tables.{cell}
use Rattle.state_arrays.specs.inner.Fits.{largest_sum, SmallSums}
use Rattle.gap_sums.specs.inner.PairPlaces.{pair_place, place_of}

-- the largest size of a gap: cells and the values expected have 32 bits
abbrev pub largest_gap : ℕ
largest_gap = 4294967295

-- no leaf's gaps add up to more, and no subtree's
abbrev pub most_leaf_gaps : ℕ
most_leaf_gaps = most_leaves * largest_gap

abbrev pub most_gaps : ℕ
most_gaps = most_leaves * most_leaf_gaps

-- what is expected of a cell of leaf y and a leaf of the subtree labelled a, but for the m of that leaf; 0 where y is
-- in that subtree itself
unfoldable pub due_at : (n : ℕ) (label m sizes p : List ℕ) (a y : ℕ) → ℕ
due_at n label m sizes p a y =
    let b = get_or label y 0 in
    cond (eqb b a) 0 (get_or p (n - (get_or sizes a 0 + get_or sizes b 0)) 0 + get_or m y 0)

-- the size of the gap at (x, y), if x is in the subtree labelled a: `due` is expected there, and x's m
unfoldable pub gap_in : (n : ℕ) (t label m : List ℕ) (a due y x : ℕ) → ℕ
gap_in n t label m a due y x =
    indicator (eqb (get_or label x 0) a) (distance (cell n t x y) (due + get_or m x 0))

-- over all leaves of that subtree
unfoldable pub leaf_gaps : (n : ℕ) (t label m : List ℕ) (a due y : ℕ) → ℕ
leaf_gaps n t label m a due y = sum_below n (gap_in n t label m a due y)

-- over all leaves of two subtrees, labelled a and b
unfoldable pub subtree_gaps : (n : ℕ) (t label m sizes p : List ℕ) (a b : ℕ) → ℕ
subtree_gaps n t label m sizes p a b =
    sum_below n (λ y. indicator (eqb (get_or label y 0) b) (leaf_gaps n t label m a (due_at n label m sizes p a y) y))

-- what is expected is small: pair counts and one m
abbrev pub SmallDues : ℕ → List ℕ → Type 0
SmallDues n due = (y : ℕ) → y < n → get_or due y 0 ≤ 2 * largest_sum

-- what is kept of each column is small
pub record SmallColumns (n : ℕ) (columns : List ℕ) : Type 0 where
  pub long : length columns ≡ most_leaves
  pub small : (y : ℕ) → y < n → get_or columns y 0 ≤ most_leaf_gaps

-- the columns of the leaves outside of the subtree labelled a are found
pub record ColumnsFound (n : ℕ) (t label m : List ℕ) (a : ℕ) (due columns : List ℕ) : Type 0 where
  pub few : SmallColumns n columns
  pub found :
      (y : ℕ) → y < n → get_or label y 0 ≢ a → get_or columns y 0 ≡ leaf_gaps n t label m a (get_or due y 0) y

-- there is a place for every two leaves, and what is kept there is small
pub record SmallGaps (n : ℕ) (sums : List ℕ) : Type 0 where
  pub long : length sums ≡ most_pairs
  pub small : (i j : ℕ) → i < j → j < n → get_or sums (pair_place i j) 0 ≤ most_gaps

-- what the sums of the subtree labelled a ask of the arrays: no sum wraps, and it has room beside each other subtree
pub record SumsFit (n : ℕ) (label m sizes p : List ℕ) (a : ℕ) : Type 0 where
  pub few : n ≤ most_leaves
  pub small : SmallSums n m
  pub small_counts : SmallSums (n + 1) p
  pub first : a < n
  pub labelled : (y : ℕ) → y < n → get_or label y 0 < n
  pub room : (y : ℕ) → y < n → get_or label y 0 ≢ a → get_or sizes a 0 + get_or sizes (get_or label y 0) 0 ≤ n

-- the sums of a and each other leaf below c are v of that leaf, all others are as they were
pub record Stored (n a c : ℕ) (v : ℕ → ℕ) (sums sums' : List ℕ) : Type 0 where
  pub fits : SmallGaps n sums'
  pub new : (k : ℕ) → k < c → k ≢ a → get_or sums' (place_of a k) 0 ≡ v k
  pub others :
      (i j : ℕ) → i < j → j < n → i ≢ a → j ≢ a → get_or sums' (pair_place i j) 0 ≡ get_or sums (pair_place i j) 0

-- the sums of leaf j and the first c leaves are those of single leaves: e is expected of each cell of the row
pub record RowStarted (row : List ℕ) (e j c : ℕ) (sums sums' : List ℕ) : Type 0 where
  pub long : length sums' ≡ length sums
  pub new : (i : ℕ) → i < c → get_or sums' (pair_place i j) 0 ≡ distance (get_or row i 0) e
  pub small : (i : ℕ) → i < c → get_or sums' (pair_place i j) 0 ≤ largest_gap
  pub others : (i k : ℕ) → i < k → k < j → get_or sums' (pair_place i k) 0 ≡ get_or sums (pair_place i k) 0

-- the sums of the first c leaves are those of single leaves
pub record Started (n : ℕ) (t : List ℕ) (e c : ℕ) (sums : List ℕ) : Type 0 where
  pub long : length sums ≡ most_pairs
  pub new : (i j : ℕ) → i < j → j < c → get_or sums (pair_place i j) 0 ≡ distance (cell n t j i) e
  pub small : (i j : ℕ) → i < j → j < c → get_or sums (pair_place i j) 0 ≤ largest_gap
