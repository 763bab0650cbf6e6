-- The search for the pair of subtrees that a guess merges next, by the sums that are kept. A label is the least leaf of
-- a subtree; `sizes` has the number of leaves of each, and `sums` the gaps of each two (gap_sums).
use Rattle.std.specs.Prelude.{◌≡◌, ◌≢◌, Bool, true, false, not, ◌&&◌, ◌||◌, List, ℕ, ◌*◌, ◌≤◌, ◌<◌, ltb, eqb, get_or}
use Rattle.base.specs.Numbers.{Fraction, less}
use Rattle.limits.specs.Limits.{most_leaves}
use Rattle.gap_sums.specs.inner.PairPlaces.{pair_place}
use Rattle.gap_sums.specs.inner.GapSums.{most_gaps, SmallGaps}
use Rattle.nearest_pairs.specs.declared.Pair.{Pair}

-- the mean of two subtrees, as it is kept
unfoldable pub kept_mean : (sizes sums : List ℕ) → ℕ × ℕ → Fraction
kept_mean sizes sums p = (get_or sums (pair_place p.0 p.1) 0, get_or sizes p.0 0 * get_or sizes p.1 0)

-- p comes before q in row order
unfoldable pub in_order : ℕ × ℕ → ℕ × ℕ → Bool
in_order p q = ltb p.0 q.0 || (eqb p.0 q.0 && ltb p.1 q.1)

-- p is taken before q: its mean is smaller, or as small and p comes before q in row order
unfoldable pub taken_before : (sizes sums : List ℕ) → ℕ × ℕ → ℕ × ℕ → Bool
taken_before sizes sums p q =
    let P = kept_mean sizes sums p in
    let Q = kept_mean sizes sums q in
    less P Q || (not (less Q P) && in_order p q)

-- i < j are labels
pub record TwoLabels (n : ℕ) (label : List ℕ) (i j : ℕ) : Type 0 where
  pub rising : i < j
  pub below : j < n
  pub own_first : get_or label i 0 ≡ i
  pub own_second : get_or label j 0 ≡ j

-- what the search asks of the arrays: no product wraps or is 0
pub record SearchFits (n : ℕ) (label sizes sums : List ℕ) : Type 0 where
  pub few : n ≤ most_leaves
  pub filled : (k : ℕ) → k < n → get_or label k 0 ≡ k → 0 < get_or sizes k 0
  pub sized : (k : ℕ) → k < n → get_or label k 0 ≡ k → get_or sizes k 0 ≤ most_leaves
  pub small : SmallGaps n sums

-- of some pairs of labels, (i, j) is taken first; j is n where there is none
pub record TakenFirst (n : ℕ) (label sizes sums : List ℕ) (among : ℕ → ℕ → Type 0) (i j : ℕ) : Type 0 where
  pub none : j ≡ n → (k l : ℕ) → TwoLabels n label k l → among k l → ⊥
  pub two : j ≢ n → TwoLabels n label i j
  pub within : j ≢ n → among i j
  pub first : j ≢ n → (k l : ℕ) → TwoLabels n label k l → among k l → taken_before sizes sums (k, l) (i, j) ≡ false

-- the pairs (k, l) of the labels below c and any, of i and any, of i and those below c, of i and any but a
abbrev pub Rows : (c k l : ℕ) → Type 0
Rows c k l = k < c

abbrev pub Row : (i k l : ℕ) → Type 0
Row i k l = k ≡ i

abbrev pub RowTo : (i c k l : ℕ) → Type 0
RowTo i c k l = (k ≡ i) × (l < c)

abbrev pub RowBut : (i a k l : ℕ) → Type 0
RowBut i a k l = (k ≡ i) × (l ≢ a)

-- r is the partner of the label i: of the pairs of i and a label after it, that of r is taken first
abbrev pub Partner : (n : ℕ) (label sizes sums : List ℕ) (i r : ℕ) → Type 0
Partner n label sizes sums i r = TakenFirst n label sizes sums (Row i) i r

-- every label has its partner among the labels after it
abbrev pub Partners : (n : ℕ) (label sizes sums partners : List ℕ) → Type 0
Partners n label sizes sums partners =
    (i : ℕ) → i < n → get_or label i 0 ≡ i → Partner n label sizes sums i (get_or partners i 0)

-- of all pairs of labels (i, j) is taken first
abbrev pub Chosen : (n : ℕ) (label sizes sums : List ℕ) (i j : ℕ) → Type 0
Chosen n label sizes sums i j = TakenFirst n label sizes sums (Rows n) i j

-- what is so of the partner r of label i after the subtree `b` became a part of `a`, a < b: where i does not come
-- before `b`, or comes after `a` and r is not `b`, it is still the partner; where i comes before `a`, unless r is one
-- of the two, its pair is taken first of all but that of `a`
pub record Outdated (n : ℕ) (label sizes sums : List ℕ) (a b i r : ℕ) : Type 0 where
  pub behind : b ≤ i → Partner n label sizes sums i r
  pub between : a < i → r ≢ b → Partner n label sizes sums i r
  pub some : i < a → r ≢ n
  pub before : i < a → r ≢ a → r ≢ b → TakenFirst n label sizes sums (RowBut i a) i r

-- A pair with what is kept of it. Its mean:
abbrev pub pair_mean : Pair → Fraction
pair_mean p = (p.sum, p.cells)

-- the pair (i, j)
abbrev pub kept_pair : (sizes sums : List ℕ) (i j : ℕ) → Pair
kept_pair sizes sums i j = record {
  first = i;
  second = j;
  sum = get_or sums (pair_place i j) 0;
  cells = get_or sizes i 0 * get_or sizes j 0;
}

-- no product of it wraps
pub record SmallPair (p : Pair) : Type 0 where
  pub sum_most : p.sum ≤ most_gaps
  pub cells_most : p.cells ≤ most_leaves * most_leaves

-- r is q if that has the smaller mean, else p
pub record Smaller (p q r : Pair) : Type 0 where
  pub less_is : less (pair_mean q) (pair_mean p) ≡ true → r ≡ q
  pub else_is : less (pair_mean q) (pair_mean p) ≡ false → r ≡ p

-- of some pairs of labels p is taken first, with what is kept of it; where there is none, its mean is 1 / 0, which is
-- more than any
pub record Best (n : ℕ) (label sizes sums : List ℕ) (among : ℕ → ℕ → Type 0) (p : Pair) : Type 0 where
  pub taken : TakenFirst n label sizes sums among p.first p.second
  pub kept : p.second ≢ n → p ≡ kept_pair sizes sums p.first p.second
  pub above : p.second ≡ n → (p.sum ≡ 1) × (p.cells ≡ 0)
