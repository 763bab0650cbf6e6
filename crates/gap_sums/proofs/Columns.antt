-- Turns of the loops that work the sums of a subtree anew.
use mathlib.Core.Path.{◌≡◌, refl, sym, ◌∙◌}
use mathlib.Core.Logic.{◌≢◌}
use mathlib.Core.List.{List}
use Prim.Native.Nat.{ℕ, ◌+◌, ◌-◌, ◌*◌, ◌^◌, ◌≤◌, ◌<◌}
use native.Mathlib.Nat.{mul-le-mul_right}
use native.Mathlib.Numerals.{add-one}
use native.Mathlib.Omega.{arith}
use native.Mathlib.Decide.{dec_lt, ℕ_discrete}
use borrow.Author.Tests.{eqb-true, ne_eqb}
use lib.Dec.{eqb}
use lib.ListN.{length, get_or, set, replicate, length-set}
use lib.Seq.{get_or-set_same, get_or-set_other}
use Rattle.base.specs.Numbers.{indicator, sum_below, distance}
use Rattle.base.proofs.Bools.{eqb_same}
use Rattle.base.specs.Lists.{filled}
use Rattle.base.proofs.Counts.{indicator_le, indicator_when}
use Rattle.base.proofs.Filling.{getD_filled}
use Rattle.base.proofs.Sums.{sum_ext, sum_le, distance_most}
use Rattle.limits.specs.Limits.{most_leaves, most_pairs}
use Rattle.pair_counts.proofs.Pairs.{P_most}
use Rattle.trees.specs.Tables.{cell, IsTable}
use Rattle.trees.proofs.Tables.{halves_equal}
use Rattle.state_arrays.specs.inner.Fits.{largest_sum, SmallSums}
use Rattle.gap_sums.specs.inner.PairPlaces.{pair_place, place_of}
use Rattle.gap_sums.specs.inner.GapSums.{largest_gap, most_leaf_gaps, most_gaps, due_at, gap_in, leaf_gaps}
use Rattle.gap_sums.specs.inner.GapSums.{subtree_gaps, SmallDues, SmallColumns, ColumnsFound}
use Rattle.gap_sums.specs.inner.GapSums.{SumsFit, Stored, RowStarted, Started}
use Rattle.gap_sums.proofs.PairPlaces.{place_within, place_apart, place_other, place_up, place_down}
use Rattle.gap_sums.proofs.PairPlaces.{other_first, other_last}

-- one part more of a sum
pub sum_turn :
    (f : ℕ → ℕ) (k : ℕ) {total v : ℕ} → total ≡ sum_below k f → v ≡ f k → total + v ≡ sum_below (k + 1) f
sum_turn f k e h = rw (e, h, add-one) (unfold sum_below in refl)

-- one column more is added at its label b
pub label_turn :
    (label columns : List ℕ) (sums : List ℕ) (y : ℕ) → get_or label y 0 < length sums
    → (k : ℕ) → get_or sums k 0 ≡ sum_below y (λ x. indicator (eqb (get_or label x 0) k) (get_or columns x 0))
    → get_or (set sums (get_or label y 0) (get_or sums (get_or label y 0) 0 + get_or columns y 0)) k 0
    ≡ sum_below (y + 1) (λ x. indicator (eqb (get_or label x 0) k) (get_or columns x 0))
label_turn label columns sums y l k e = elim (ℕ_discrete k (get_or label y 0)) [
  | yes q ↦
      rw (q, get_or-set_same sums (get_or label y 0) (get_or sums (get_or label y 0) 0 + get_or columns y 0) 0 l)
      (sum_turn (λ x. indicator (eqb (get_or label x 0) (get_or label y 0)) (get_or columns x 0)) y (rw q at e)
      (rw (eqb_same (get_or label y 0))))
  | no d ↦
      rw (get_or-set_other sums (get_or label y 0) k (get_or sums (get_or label y 0) 0 + get_or columns y 0) 0 d)
      (omega (
        arith,
        e,
        sum_turn (λ x. indicator (eqb (get_or label x 0) k) (get_or columns x 0)) y refl refl,
        none d,
      ))
]
  where
    none : k ≢ get_or label y 0 → indicator (eqb (get_or label y 0) k) (get_or columns y 0) ≡ 0
    none d = rw (ne_eqb (get_or label y 0) k (λ q. d (sym q)))

-- what is expected of a leaf, by whether it is in the subtree itself
pub due_is :
    (n : ℕ) (label m sizes p : List ℕ) (a y : ℕ) {v : ℕ}
    → (let b = get_or label y 0 in
    (b ≡ a → v ≡ 0) × (b ≢ a → v ≡ get_or p (n - (get_or sizes a 0 + get_or sizes b 0)) 0 + get_or m y 0)
    × (v ≤ 2 * largest_sum)) → v ≡ due_at n label m sizes p a y
unfolding due_at
due_is n label m sizes p a y h = elim (ℕ_discrete (get_or label y 0) a) [
  | yes e ↦ rw (e, eqb_same a) (h.0 e)
  | no d ↦ rw (ne_eqb (get_or label y 0) a d) (h.1 d)
]

-- a leaf's part in the gaps of a column, by whether it is in the subtree
module _ (n : ℕ) (t label m : List ℕ) (a due y x : ℕ) where
  pub gap_out : get_or label x 0 ≢ a → gap_in n t label m a due y x ≡ 0
  unfolding gap_in
  gap_out d = rw (ne_eqb (get_or label x 0) a d)

  pub gap_within : get_or label x 0 ≡ a → gap_in n t label m a due y x ≡ distance (cell n t x y) (due + get_or m x 0)
  unfolding gap_in
  gap_within e = rw (e, eqb_same a)

-- no part is larger than a gap can be
gap_most :
    (n : ℕ) (t label m : List ℕ) (a due y x : ℕ) → ((k : ℕ) → get_or t k 0 ≤ largest_gap) → SmallSums n m
    → due ≤ 2 * largest_sum → x < n → gap_in n t label m a due y x ≤ largest_gap
unfolding gap_in cell
gap_most n t label m a due y x cells small few l =
    let part = indicator_le (eqb (get_or label x 0) a) (distance (cell n t x y) (due + get_or m x 0)) in
    let size = distance_most (cell n t x y) (due + get_or m x 0) largest_gap (cells (x * n + y))
    (omega (arith, P_most, small x l)) in
    omega arith

pub column_small :
    (n : ℕ) (t label m : List ℕ) (a due y x : ℕ) → ((k : ℕ) → get_or t k 0 ≤ largest_gap) → SmallSums n m
    → due ≤ 2 * largest_sum → x ≤ n → n ≤ most_leaves
    → sum_below x (gap_in n t label m a due y) ≤ most_leaf_gaps
column_small n t label m a due y x cells small few l h =
    let all = sum_le x largest_gap (gap_in n t label m a due y) (λ k lk.
    gap_most n t label m a due y k cells small few (omega arith)) in
    let fits : x ≤ most_leaves = omega arith in
    omega (arith, mul-le-mul_right largest_gap fits)

-- the gaps of the leaf y, by its own row
pub row_column :
    (n : ℕ) (t label m row : List ℕ) (a due y : ℕ) → IsTable n t → y < n
    → ((x : ℕ) → x < n → get_or row x 0 ≡ cell n t y x)
    → sum_below n (λ x. indicator (eqb (get_or label x 0) a) (distance (get_or row x 0) (due + get_or m x 0)))
    ≡ leaf_gaps n t label m a due y
unfolding leaf_gaps gap_in
row_column n t label m row a due y is ly cells =
    sum_ext n _ _ (λ x lx. rw (cells x lx, halves_equal is y x ly lx))

-- what is kept at a label so far is small
pub label_small :
    {n : ℕ} (label columns : List ℕ) (y k : ℕ) → SmallColumns n columns → n ≤ most_leaves → y < n
    → sum_below y (λ x. indicator (eqb (get_or label x 0) k) (get_or columns x 0)) + get_or columns y 0 ≤ most_gaps
label_small {n} label columns y k few h l =
    let each = sum_le y most_leaf_gaps (λ x. indicator (eqb (get_or label x 0) k) (get_or columns x 0)) (λ x lx.
    let part = indicator_le (eqb (get_or label x 0) k) (get_or columns x 0) in
    omega (arith, few.small x (omega arith))) in
    let all : y + 1 ≤ most_leaves = omega arith in
    omega (arith, each, few.small y l, mul-le-mul_right most_leaf_gaps all)

-- the columns of the first y leaves are found
abbrev pub ColumnsTo : (n : ℕ) (t label m : List ℕ) (a : ℕ) (due : List ℕ) (y : ℕ) (columns : List ℕ) → Type 0
ColumnsTo n t label m a due y columns =
    (x : ℕ) → x < y → (get_or label x 0 ≢ a → get_or columns x 0 ≡ leaf_gaps n t label m a (get_or due x 0) x)
    × (get_or columns x 0 ≤ most_leaf_gaps)

-- What is expected of every leaf, as it is filled in.
module _ {n : ℕ} {label m sizes p : List ℕ} {a : ℕ} (f : SumsFit n label m sizes p a) {due : List ℕ}
    (e : due ≡ filled n (due_at n label m sizes p a) (replicate most_leaves 0)) where
  due_read : (y : ℕ) → y < n → get_or due y 0 ≡ due_at n label m sizes p a y
  due_read y ly = rw e (getD_filled (due_at n label m sizes p a) (replicate most_leaves 0) n y 0 ly)

  pub due_small : SmallDues n due
  unfolding due_at
  due_small y ly = rw (due_read y ly) (elim (ℕ_discrete (get_or label y 0) a) [
    | yes q ↦ rw (q, eqb_same a) (omega arith)
    | no d ↦
        let b = get_or label y 0 in
        let pairs = f.small_counts (n - (get_or sizes a 0 + get_or sizes b 0)) (omega arith) in
        rw (ne_eqb b a d) (omega (arith, pairs, f.small y ly))
  ])

  -- the columns of a subtree other than a add up to its gaps
  pub columns_sum :
      {t columns : List ℕ} → ColumnsFound n t label m a due columns → (k : ℕ) → k ≢ a
      → sum_below n (λ y. indicator (eqb (get_or label y 0) k) (get_or columns y 0))
      ≡ subtree_gaps n t label m sizes p a k
  unfolding subtree_gaps
  columns_sum {t} {columns} c k d = sum_ext n _ _ (λ y ly. indicator_when (eqb (get_or label y 0) k) _ _ (λ q.
      let is_k = eqb-true (get_or label y 0) k q in
      c.found y ly (λ is_a. d (sym is_k ∙ is_a)) ∙ rw (due_read y ly)))

-- what is kept at a label is small
pub labels_small :
    {n : ℕ} {columns : List ℕ} (label : List ℕ) (k : ℕ) → SmallColumns n columns → n ≤ most_leaves
    → sum_below n (λ y. indicator (eqb (get_or label y 0) k) (get_or columns y 0)) ≤ most_gaps
labels_small {n} {columns} label k few h =
    let each = sum_le n most_leaf_gaps (λ x. indicator (eqb (get_or label x 0) k) (get_or columns x 0)) (λ x lx.
    let part = indicator_le (eqb (get_or label x 0) k) (get_or columns x 0) in
    omega (arith, few.small x lx)) in
    omega (arith, each, mul-le-mul_right most_leaf_gaps h)

-- the sums of a are stored as v, which are w
pub stored_as :
    {n a : ℕ} {v w : ℕ → ℕ} {sums sums' : List ℕ} → ((k : ℕ) → k < n → k ≢ a → v k ≡ w k)
    → Stored n a n v sums sums' → Stored n a n w sums sums'
stored_as h r = record { fits = r.fits; new = λ k l d. r.new k l d ∙ h k l d; others = r.others }

-- One sum more of a is stored.
module _ {n a c : ℕ} {v : ℕ → ℕ} {sums sums₁ : List ℕ} (few : n ≤ most_leaves) (la : a < n) (lc : c < n)
    (h : Stored n a c v sums sums₁) where
  -- the place of a and c is within
  inside : c ≢ a → place_of a c < length sums₁
  inside d = rw h.fits.long (elim (dec_lt a c) [
    | yes l ↦ rw (place_up a c l) (place_within a c l (omega arith))
    | no g ↦ let l : c < a = omega arith in rw (place_down a c l) (place_within c a l (omega arith))
  ])

  abbrev next : List ℕ
  next = set sums₁ (place_of a c) (v c)

  next_small : c ≢ a → v c ≤ most_gaps → (i j : ℕ) → i < j → j < n → get_or next (pair_place i j) 0 ≤ most_gaps
  next_small d b i j l lj = elim (ℕ_discrete (pair_place i j) (place_of a c)) [
    | yes e ↦ rw (e, get_or-set_same sums₁ (place_of a c) (v c) 0 (inside d)) b
    | no f ↦ rw (get_or-set_other sums₁ (place_of a c) (pair_place i j) (v c) 0 f) (h.fits.small i j l lj)
  ]

  next_new : c ≢ a → (k : ℕ) → k < c + 1 → k ≢ a → get_or next (place_of a k) 0 ≡ v k
  next_new d k lk z = elim (ℕ_discrete k c) [
    | yes e ↦ rw (e, get_or-set_same sums₁ (place_of a c) (v c) 0 (inside d))
    | no f ↦
        get_or-set_other sums₁ (place_of a c) (place_of a k) (v c) 0 (place_other a k c z d f)
        ∙ h.new k (omega arith) z
  ]

  pub store_turn : c ≢ a → v c ≤ most_gaps → Stored n a (c + 1) v sums (set sums₁ (place_of a c) (v c))
  store_turn d b = record {
    fits = record { long = length-set sums₁ (place_of a c) (v c) ∙ h.fits.long; small = next_small d b };
    new = next_new d;
    others = λ i j l lj ia ja.
        get_or-set_other sums₁ (place_of a c) (pair_place i j) (v c) 0 (place_apart a c i j d l ia ja)
        ∙ h.others i j l lj ia ja;
  }

  -- a itself has no sum with itself
  pub store_skip : c ≡ a → Stored n a (c + 1) v sums sums₁
  store_skip e = record {
    fits = h.fits;
    new = λ k lk z. h.new k (omega (arith, z)) z;
    others = h.others;
  }

-- One sum more of the single leaf j.
pub started_turn :
    {row sums sums₁ : List ℕ} {e j c v : ℕ} → j < most_leaves → length sums ≡ most_pairs → c < j
    → RowStarted row e j c sums sums₁ → (v ≡ distance (get_or row c 0) e) × (v < 2 ^ 32)
    → RowStarted row e j (c + 1) sums (set sums₁ (pair_place c j) v)
started_turn {row} {sums} {sums₁} {e} {j} {c} {v} lj many lc h b = record {
  long = length-set sums₁ (pair_place c j) v ∙ h.long;
  new = λ i li. elim (ℕ_discrete i c) [
    | yes q ↦ rw (q, same) b.0
    | no d ↦ other i li d ∙ h.new i (omega arith)
  ];
  small = λ i li. elim (ℕ_discrete i c) [
    | yes q ↦ rw (q, same) (omega (arith, b.1))
    | no d ↦ rw (other i li d) (h.small i (omega arith))
  ];
  others = λ i k l m.
      get_or-set_other sums₁ (pair_place c j) (pair_place i k) v 0 (other_last i k c j l lc (omega arith))
      ∙ h.others i k l m;
}
  where
    same : get_or (set sums₁ (pair_place c j) v) (pair_place c j) 0 ≡ v
    same = get_or-set_same sums₁ (pair_place c j) v 0 (rw (h.long ∙ many) (place_within c j lc lj))

    other : (i : ℕ) → i < c + 1 → i ≢ c
        → get_or (set sums₁ (pair_place c j) v) (pair_place i j) 0 ≡ get_or sums₁ (pair_place i j) 0
    other i li d =
        get_or-set_other sums₁ (pair_place c j) (pair_place i j) v 0 (other_first i j c j (omega arith) lc d)

-- One leaf more, while all are single.
pub start_turn :
    {n : ℕ} {t row sums sums' : List ℕ} {e j : ℕ} → ((i : ℕ) → i < n → get_or row i 0 ≡ cell n t j i) → j < n
    → Started n t e j sums → RowStarted row e j j sums sums' → Started n t e (j + 1) sums'
start_turn {n} {t} {row} {sums} {sums'} {e} {j} cells lj h r = record {
  long = r.long ∙ h.long;
  new = λ i k l lk. elim (ℕ_discrete k j) [
    | yes q ↦ rw q (r.new i (omega arith) ∙ rw (cells i (omega arith)))
    | no d ↦ r.others i k l (omega arith) ∙ h.new i k l (omega arith)
  ];
  small = λ i k l lk. elim (ℕ_discrete k j) [
    | yes q ↦ rw q (r.small i (omega arith))
    | no d ↦ rw (r.others i k l (omega arith)) (h.small i k l (omega arith))
  ];
}
