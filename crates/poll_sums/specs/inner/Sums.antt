-- What the steps of the code promise one another about the sums. No promise of the operation rests on these: they serve
-- its proof.
use Rattle.std.specs.Prelude.{◌≡◌, cond, List, ℕ, ◌+◌, ◌-◌, ◌*◌, ◌/◌, ◌%◌, ◌≤◌, ◌<◌, ltb}
use Rattle.base.specs.Numbers.{indicator}
use Rattle.limits.specs.declared.Kind.TheVariants.{Poll}
use Rattle.limits.specs.Limits.{scale_of}
use Rattle.trees.specs.Tables.{cell}
use Rattle.poll_rules.specs.declared.Quartet.{Quartet}
use Rattle.poll_rules.specs.Counts.{cell_of}
use Rattle.poll_records.specs.declared.Due.{Due}
use Rattle.poll_records.specs.inner.Due.{packed}
use Rattle.poll_sums.specs.declared.Cell.{Cell}

-- three numbers below 1024 in one
abbrev pub together : (x y z : ℕ) → ℕ
together x y z = x + 1024 * y + 1048576 * z

-- what cell (i, j) gets when the three numbers in w go to the cells (a, b), (c, d), (e, f)
unfoldable pub dealt : (a b c d e f w i j : ℕ) → ℕ
dealt a b c d e f w i j =
    indicator (cell_of a b i j) (w % 1024)
    + (indicator (cell_of c d i j) (w / 1024 % 1024) + indicator (cell_of e f i j) (w / 1048576))

-- when they go, by pairings, to the cells of the fourth leaf, or to those of the first three
abbrev pub with_fourth : Quartet → (w i j : ℕ) → ℕ
with_fourth q = dealt q.c q.d q.b q.d q.a q.d

abbrev pub of_three : Quartet → (w i j : ℕ) → ℕ
of_three q = dealt q.a q.b q.a q.c q.b q.c

-- each of the three numbers in w is at most m
abbrev pub EachAtMost : (m w : ℕ) → Type 0
EachAtMost m w = (w % 1024 ≤ m) × (w / 1024 % 1024 ≤ m) × (w / 1048576 ≤ m)

-- what is ready for the quartet due is right; six sixths at most are kept back for each of its pairings from each
-- record with its first three leaves before it, and nothing after the last leaf
pub record Ready (n : ℕ) (due : Due) : Type 0 where
  pub leaves : due.leaves ≡ packed due.quartet
  pub first : due.first ≡ due.quartet.a * n
  pub second : due.second ≡ due.quartet.b * n
  pub third : due.third ≡ due.quartet.c * n
  pub kept : EachAtMost (scale_of Poll * (due.quartet.d - (due.quartet.c + 1))) due.kept
  pub ended : n ≤ due.quartet.d → due.kept ≡ 0

-- a cell above the diagonal, and its place
abbrev pub Placed : ℕ → Cell → Type 0
Placed n p = (p.row < p.column) × (p.column < n) × (p.at ≡ p.row * n + p.column)

-- the shares of a record, and what is kept back with them, are less: two numbers of 30 bits
abbrev pub most_given : ℕ
most_given = 2147483648

-- each of the sums on and above the diagonal has room for m more in 32 bits
abbrev pub RoomFor : (n m : ℕ) → List ℕ → Type 0
RoomFor n m t = (i j : ℕ) → i ≤ j → j < n → cell n t i j + m < 4294967296

-- each of the sums on and above the diagonal has grown by f
abbrev pub Grown : (n : ℕ) → (ℕ → ℕ → ℕ) → (t t' : List ℕ) → Type 0
Grown n f t t' = (i j : ℕ) → i ≤ j → j < n → cell n t' i j ≡ cell n t i j + f i j

-- each has grown by f, but for what is kept back
abbrev pub Added : (n : ℕ) (due due' : Due) → (ℕ → ℕ → ℕ) → (t t' : List ℕ) → Type 0
Added n due due' f t t' =
    (i j : ℕ) → i ≤ j → j < n
    → cell n t' i j + of_three due'.quartet due'.kept i j
    ≡ cell n t i j + of_three due.quartet due.kept i j + f i j

-- the sum of cell (i, j), or of its mirror cell where it stands below the diagonal
unfoldable pub mirrored_sum : (n : ℕ) → List ℕ → (i j : ℕ) → ℕ
mirrored_sum n t i j = cond (ltb i j) (cell n t i j) (cell n t j i)
