-- What the tests of a rebuild say of its arrays. Each leaf k has a label, `label k`, the least leaf of its subtree, and
-- its number m, `m k`; a label i has the number of leaves of its subtree, `sizes i`. p holds the pair counts. These
-- and m are at the scale of the table.
use Rattle.std.specs.Prelude.{◌≡◌, ◌≢◌, List, ℕ, ◌+◌, ◌-◌, ◌*◌, ◌≤◌, ◌<◌, get_or}
use Rattle.limits.specs.Limits.{most_leaves, most_scale, IsLeafCount}
use Rattle.pair_counts.specs.Pairs.{P}
use Rattle.trees.specs.Tables.{cell, IsTable}

-- the scale of a table: 1 of a count table, and at most that of a poll's
abbrev pub IsScale : ℕ → Type 0
IsScale s = (1 ≤ s) × (s ≤ most_scale)

-- p holds the pair counts of up to n leaves, at the scale s
abbrev pub ScaledCounts : ℕ → ℕ → List ℕ → Type 0
ScaledCounts n s p = (k : ℕ) → k ≤ n → get_or p k 0 ≡ s * P k

-- their scale is their number for two leaves, which are one pair
abbrev pub counts_scale : List ℕ → ℕ
counts_scale p = get_or p 2 0

-- what a rebuild is given: a table that passed the checks, and the pair counts at its scale
pub record Given (n s : ℕ) (t p : List ℕ) : Type 0 where
  pub leaf_count : IsLeafCount n
  pub is_table : IsTable n t
  pub scaled : IsScale s
  pub pair_counts : ScaledCounts n s p

-- the pairs of the most leaves, at the largest scale
abbrev pub largest_sum : ℕ
largest_sum = most_scale * P most_leaves

-- none of the first n numbers is above them
abbrev pub SmallSums : ℕ → List ℕ → Type 0
SmallSums n l = (k : ℕ) → k < n → get_or l k 0 ≤ largest_sum

-- every cell (x, y), x labelled a and y labelled b, is e + m(x) + m(y)
abbrev pub BlockFits : ℕ → List ℕ → List ℕ → List ℕ → ℕ → ℕ → ℕ → Type 0
BlockFits n t label m a b e =
    (x y : ℕ) → x < n → y < n → get_or label x 0 ≡ a → get_or label y 0 ≡ b
    → cell n t x y ≡ (e + get_or m x 0) + get_or m y 0

-- the subtrees labelled a and b are eligible, as far as their cells go
abbrev pub SubtreesFit : ℕ → List ℕ → List ℕ → List ℕ → List ℕ → List ℕ → ℕ → ℕ → Type 0
SubtreesFit n t label m sizes p a b =
    BlockFits n t label m a b (get_or p (n - (get_or sizes a 0 + get_or sizes b 0)) 0)

-- what a test has to know of the arrays: no sum wraps, and two subtrees have no more than n leaves
pub record SizesFit (n : ℕ) (t label m sizes p : List ℕ) : Type 0 where
  pub few : n ≤ most_leaves
  pub is_table : IsTable n t
  pub small_counts : SmallSums (n + 1) p
  pub small : SmallSums n m
  pub room :
      (a b : ℕ) → a < n → b < n → a ≢ b → get_or label a 0 ≡ a → get_or label b 0 ≡ b
      → get_or sizes a 0 + get_or sizes b 0 ≤ n

-- two labels, whose subtrees are to be tested
pub record TwoLabels (n : ℕ) (t label m sizes p : List ℕ) (a b : ℕ) : Type 0 where
  pub fair : SizesFit n t label m sizes p
  pub first : a < n
  pub second : b < n
  pub differ : a ≢ b
  pub own_first : get_or label a 0 ≡ a
  pub own_second : get_or label b 0 ≡ b
