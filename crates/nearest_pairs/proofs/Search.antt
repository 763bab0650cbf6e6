-- The search, step by step: the pair that is taken first of some pairs once more are looked at, a label's partner, and
-- the partners after a merge.
use mathlib.Core.Path.{◌≡◌, refl, ap}
use mathlib.Core.Logic.{◌⊎◌, inl, inr, ◌≢◌}
use mathlib.Core.Bool.{Bool, true, false}
use mathlib.Core.List.{List}
use Prim.Native.Nat.{ℕ, ◌+◌, ◌*◌, ◌≤◌, ◌<◌}
use native.Mathlib.Nat.{mul-pos, mul-le-mul}
use native.Mathlib.Omega.{arith}
use native.Mathlib.Decide.{ℕ_discrete}
use borrow.Author.Tests.{lt-ltb}
use lib.ListN.{length, get_or, set}
use lib.Seq.{get_or-set_same, get_or-set_other}
use Rattle.base.specs.Numbers.{Fraction, less}
use Rattle.base.proofs.Bools.{bool?, never, is_false}
use Rattle.limits.specs.Limits.{most_leaves}
use Rattle.gap_sums.specs.inner.PairPlaces.{pair_place}
use Rattle.nearest_pairs.specs.declared.Pair.{Pair}
use Rattle.nearest_pairs.specs.inner.Nearest.{kept_mean, taken_before, TwoLabels, SearchFits, TakenFirst, Rows}
use Rattle.nearest_pairs.specs.inner.Nearest.{Row, RowTo, RowBut, Partner, Outdated, pair_mean, kept_pair}
use Rattle.nearest_pairs.specs.inner.Nearest.{SmallPair, Smaller, Best}
use Rattle.nearest_pairs.proofs.Order.{Before, is_order, sooner_less, sooner_tie, sooner_trans, later_trans}
use Rattle.nearest_pairs.proofs.Order.{sooner_irr}

-- in a row that is looked at up to c, and in the one further
row_more : (i c k l : ℕ) → RowTo i (c + 1) k l → l ≢ c → RowTo i c k l
row_more i c k l r d = (r.0, omega (arith, r.1))

module _ {n : ℕ} {label sizes sums : List ℕ} (fit : SearchFits n label sizes sums) where
  abbrev f : ℕ × ℕ → Fraction
  f = kept_mean sizes sums

  abbrev taken : ℕ × ℕ → ℕ × ℕ → Bool
  taken = taken_before sizes sums

  -- two labels have a cell
  pos : (i j : ℕ) → TwoLabels n label i j → 0 < (f (i, j)).1
  unfolding kept_mean
  pos i j t =
      mul-pos (fit.filled i (omega (arith, t.rising, t.below)) t.own_first)
      (fit.filled j t.below t.own_second)

  -- what their pair asks of the arrays, and that no product with it wraps
  pub pair_fits :
      {i j : ℕ} → TwoLabels n label i j
      → (i < j) × (j < most_leaves) × (get_or sizes i 0 ≤ most_leaves) × (get_or sizes j 0 ≤ most_leaves)
  pair_fits {i} {j} t = (
    t.rising,
    omega (arith, fit.few, t.below),
    fit.sized i (omega (arith, t.rising, t.below)) t.own_first,
    fit.sized j t.below t.own_second,
  )

  pub pair_small : {i j : ℕ} → TwoLabels n label i j → SmallPair (kept_pair sizes sums i j)
  pair_small {i} {j} t = record {
    sum_most = fit.small.small i j t.rising t.below;
    cells_most = mul-le-mul (pair_fits t).2 (pair_fits t).3;
  }

  -- the order of pairs of labels
  module _ {i j k l u v : ℕ} (p : TwoLabels n label i j) (q : TwoLabels n label k l) (r : TwoLabels n label u v) where
    taken_trans : taken (i, j) (k, l) ≡ true → taken (k, l) (u, v) ≡ true → taken (i, j) (u, v) ≡ true
    unfolding taken_before
    taken_trans = sooner_trans f (i, j) (k, l) (u, v) (pos i j p) (pos k l q) (pos u v r)

    not_taken_trans : taken (i, j) (k, l) ≡ false → taken (k, l) (u, v) ≡ false → taken (i, j) (u, v) ≡ false
    unfolding taken_before
    not_taken_trans = later_trans f (i, j) (k, l) (u, v) (pos i j p) (pos k l q) (pos u v r)

  itself : (i j : ℕ) → taken (i, j) (i, j) ≡ false
  unfolding taken_before
  itself i j = sooner_irr f (i, j)

  module _ {i j u v : ℕ} (p : TwoLabels n label i j) (q : TwoLabels n label u v) where
    -- of two pairs one is not taken before the other
    pub one_way : taken (i, j) (u, v) ≡ true → taken (u, v) (i, j) ≡ false
    one_way t = is_false (taken (u, v) (i, j)) (λ s. never (taken_trans p q p t s) (itself i j))

    -- by their means alone, where (i, j) comes first in row order
    smaller_taken : less (f (u, v)) (f (i, j)) ≡ true → taken (u, v) (i, j) ≡ true
    unfolding taken_before
    smaller_taken s = sooner_less f (u, v) (i, j) s

    earlier_taken : Before (i, j) (u, v) → less (f (u, v)) (f (i, j)) ≡ false → taken (i, j) (u, v) ≡ true
    unfolding taken_before
    earlier_taken b s = sooner_tie f (i, j) (u, v) s (is_order (i, j) (u, v) b)

  -- The pairs R have been looked at: those among Q before, and others that are not taken before (u, v).
  module _ {Q : ℕ → ℕ → Type 0} {i j : ℕ} (h : TakenFirst n label sizes sums Q i j) (R : ℕ → ℕ → Type 0) where
    pub first_same :
        ((k l : ℕ) → TwoLabels n label k l → R k l → Q k l) → (j ≢ n → R i j) → TakenFirst n label sizes sums R i j
    first_same back m = record {
      none = λ e k l p r. h.none e k l p (back k l p r);
      two = h.two;
      within = m;
      first = λ d k l p r. h.first d k l p (back k l p r);
    }

    module _ {u v : ℕ} (t : TwoLabels n label u v)
        (cover : (k l : ℕ) → TwoLabels n label k l → R k l → (Q k l) ⊎ (taken (k, l) (u, v) ≡ false)) where
      pub first_new : R u v → (j ≢ n → taken (i, j) (u, v) ≡ false) → TakenFirst n label sizes sums R u v
      first_new m s = record {
        none = λ e. absurd (omega (arith, t.below));
        two = λ _. t;
        within = λ _. m;
        first = λ _ k l p r. elim (cover k l p r) [
          | inl q ↦ elim (ℕ_discrete j n) [
            | yes e ↦ absurd (h.none e k l p q)
            | no d ↦ not_taken_trans p (h.two d) t (h.first d k l p q) (s d)
          ]
          | inr g ↦ g
        ];
      }

      pub first_keep : R i j → j ≢ n → taken (u, v) (i, j) ≡ false → TakenFirst n label sizes sums R i j
      first_keep m d s = record {
        none = λ e. absurd (d e);
        two = h.two;
        within = λ _. m;
        first = λ _ k l p r. elim (cover k l p r) [
          | inl q ↦ h.first d k l p q
          | inr g ↦ not_taken_trans p t (h.two d) g s
        ];
      }

  -- The same with what is kept of the pairs: (u, v) comes later in row order, and the one of the smaller mean is taken.
  module _ {Q : ℕ → ℕ → Type 0} {best : Pair} (h : Best n label sizes sums Q best) where
    pub best_small : SmallPair best
    best_small = elim (ℕ_discrete best.second n) [
      | yes e ↦ record {
        sum_most = omega (arith, (h.above e).0);
        cells_most = omega (arith, (h.above e).1);
      }
      | no d ↦ rw (h.kept d) (pair_small (h.taken.two d))
    ]

    pub best_same :
        (R : ℕ → ℕ → Type 0) → ((k l : ℕ) → TwoLabels n label k l → R k l → Q k l)
        → (best.second ≢ n → R best.first best.second) → Best n label sizes sums R best
    best_same R back m = record { taken = first_same h.taken R back m; kept = h.kept; above = h.above }

    module _ (R : ℕ → ℕ → Type 0) {u v : ℕ} (t : TwoLabels n label u v)
        (cover : (k l : ℕ) → TwoLabels n label k l → R k l → (Q k l) ⊎ (taken (k, l) (u, v) ≡ false))
        (later : best.second ≢ n → Before (best.first, best.second) (u, v)) (m : R u v)
        (still : best.second ≢ n → R best.first best.second) where
      -- what is none is above every mean
      above_all : best.second ≡ n → less (pair_mean (kept_pair sizes sums u v)) (pair_mean best) ≡ true
      unfolding less kept_mean
      above_all e =
          let p = pos u v t in
          rw ((h.above e).0, (h.above e).1)
          (lt-ltb (get_or sums (pair_place u v) 0 * 0) (1 * (get_or sizes u 0 * get_or sizes v 0)) (omega (arith, p)))

      best_mean : best.second ≢ n → pair_mean best ≡ f (best.first, best.second)
      unfolding kept_mean
      best_mean d = ap pair_mean (h.kept d)

      new_best : less (pair_mean (kept_pair sizes sums u v)) (pair_mean best) ≡ true
          → Best n label sizes sums R (kept_pair sizes sums u v)
      unfolding kept_mean
      new_best s = record {
        taken = first_new h.taken R t cover m (λ d.
            one_way t (h.taken.two d) (smaller_taken (h.taken.two d) t (rw (best_mean d) at s)));
        kept = λ _. refl;
        above = λ e. absurd (omega (arith, t.below));
      }

      same_best : less (pair_mean (kept_pair sizes sums u v)) (pair_mean best) ≡ false → Best n label sizes sums R best
      unfolding kept_mean
      same_best s =
          let d : best.second ≢ n = λ e. never (above_all e) s in
          record {
            taken = first_keep h.taken R t cover (still d) d
                (one_way (h.taken.two d) t (earlier_taken (h.taken.two d) t (later d) (rw (best_mean d) at s)));
            kept = h.kept;
            above = h.above;
          }

      pub best_turn : {r : Pair} → Smaller best (kept_pair sizes sums u v) r → Best n label sizes sums R r
      best_turn w = elim (bool? (less (pair_mean (kept_pair sizes sums u v)) (pair_mean best))) [
        | inl s ↦ rw (w.less_is s) (new_best s)
        | inr s ↦ rw (w.else_is s) (same_best s)
      ]

  two : (i j : ℕ) → i < j → j < n → get_or label i 0 ≡ i → get_or label j 0 ≡ j → TwoLabels n label i j
  two i j l m oi oj = record { rising = l; below = m; own_first = oi; own_second = oj }

  -- The partner of i, once j is looked at.
  pub row_start :
      {i : ℕ} → Best n label sizes sums (RowTo i (i + 1)) (record { first = i; second = n; sum = 1; cells = 0 })
  row_start {i} = record {
    taken = record {
      none = λ e k l p r. omega (arith, p.rising, r.0, r.1);
      two = λ d. absurd (d refl);
      within = λ d. absurd (d refl);
      first = λ d. absurd (d refl);
    };
    kept = λ d. absurd (d refl);
    above = λ e. (refl, refl);
  }

  module _ {i j : ℕ} {best : Pair} (h : Best n label sizes sums (RowTo i j) best) where
    row_still : best.second ≢ n → RowTo i (j + 1) best.first best.second
    row_still d = ((h.taken.within d).0, omega (arith, (h.taken.within d).1))

    pub row_skip : get_or label j 0 ≢ j → Best n label sizes sums (RowTo i (j + 1)) best
    row_skip o =
        best_same h (RowTo i (j + 1)) (λ k l p r. row_more i j k l r (λ e. o (rw e at p.own_second))) row_still

    pub row_turn :
        {r : Pair} → TwoLabels n label i j → Smaller best (kept_pair sizes sums i j) r
        → Best n label sizes sums (RowTo i (j + 1)) r
    row_turn t w =
        best_turn h (RowTo i (j + 1)) t cover (λ d. inr (h.taken.within d)) (refl, omega arith) row_still w
      where
        cover :
            (k l : ℕ) → TwoLabels n label k l → RowTo i (j + 1) k l → (RowTo i j k l) ⊎ (taken (k, l) (i, j) ≡ false)
        cover k l p r = elim (ℕ_discrete l j) [
          | yes e ↦ inr (rw (r.0, e) (itself i j))
          | no d ↦ inl (row_more i j k l r d)
        ]

  module _ {i : ℕ} {best : Pair} (h : Best n label sizes sums (Rows i) best) where
    rows_still : best.second ≢ n → Rows (i + 1) best.first best.second
    rows_still d = omega (arith, h.taken.within d)

    -- where there is none in it
    pub rows_skip : ((l : ℕ) → TwoLabels n label i l → ⊥) → Best n label sizes sums (Rows (i + 1)) best
    rows_skip o =
        best_same h (Rows (i + 1)) (λ k l p r. elim (ℕ_discrete k i) [
          | yes e ↦ absurd (o l (rw e at p))
          | no d ↦ omega arith
        ]) rows_still

    pub rows_turn :
        {j : ℕ} {r : Pair} → Partner n label sizes sums i j → j ≢ n → Smaller best (kept_pair sizes sums i j) r
        → Best n label sizes sums (Rows (i + 1)) r
    rows_turn {j} q d w =
        best_turn h (Rows (i + 1)) (q.two d) cover (λ g. inl (h.taken.within g)) (omega arith) rows_still w
      where
        cover :
            (k l : ℕ) → TwoLabels n label k l → Rows (i + 1) k l → (Rows i k l) ⊎ (taken (k, l) (i, j) ≡ false)
        cover k l p r = elim (ℕ_discrete k i) [
          | yes e ↦ inr (q.first d k l p e)
          | no g ↦ inl (omega arith)
        ]

  -- Of two pairs of i, by the one whose mean is smaller.
  pub nearer_is :
      {i j k : ℕ} {r : Pair} → TwoLabels n label i j → TwoLabels n label i k → j < k
      → Smaller (kept_pair sizes sums i j) (kept_pair sizes sums i k) r
      → (taken (i, k) (i, j) ≡ true → r.second ≡ k) × (taken (i, k) (i, j) ≡ false → r.second ≡ j)
  unfolding kept_mean
  nearer_is {i} {j} {k} p q l w = elim (bool? (less (f (i, k)) (f (i, j)))) [
    | inl s ↦ (λ t. ap (λ (x : Pair). x.second) (w.less_is s), λ t. absurd (never (smaller_taken p q s) t))
    | inr s ↦ (
      λ t. absurd (never t (one_way p q (earlier_taken p q (inr (refl, l)) s))),
      λ t. ap (λ (x : Pair). x.second) (w.else_is s),
    )
  ]

  -- The partner of the label i, which comes before a, after a merge of a and b.
  module _ {a b i old : ℕ} (an : a < n) (oa : get_or label a 0 ≡ a) (oi : get_or label i 0 ≡ i)
      (h : Outdated n label sizes sums a b i old) (ia : i < a) (da : old ≢ a) (db : old ≢ b) where
    was : TakenFirst n label sizes sums (RowBut i a) i old
    was = h.before ia da db

    pub old_two : TwoLabels n label i old
    old_two = was.two (h.some ia)

    pub new_two : TwoLabels n label i a
    new_two = two i a ia an oi oa

    cover : (k l : ℕ) → TwoLabels n label k l → Row i k l → (RowBut i a k l) ⊎ (taken (k, l) (i, a) ≡ false)
    cover k l p r = elim (ℕ_discrete l a) [ yes e ↦ inr (rw (r, e) (itself i a)) | no d ↦ inl (r, d) ]

    pub renewed_new : taken (i, old) (i, a) ≡ false → Partner n label sizes sums i a
    renewed_new s = first_new was (Row i) new_two cover refl (λ _. s)

    pub renewed_keep : taken (i, a) (i, old) ≡ false → Partner n label sizes sums i old
    renewed_keep s = first_keep was (Row i) new_two cover refl (h.some ia) s

    -- by the one that is taken first
    pub renewed_up :
        {r : ℕ} → (taken (i, a) (i, old) ≡ true → r ≡ a) × (taken (i, a) (i, old) ≡ false → r ≡ old)
        → Partner n label sizes sums i r
    renewed_up w = elim (bool? (taken (i, a) (i, old))) [
      | inl s ↦ rw (w.0 s) (renewed_new (one_way new_two old_two s))
      | inr s ↦ rw (w.1 s) (renewed_keep s)
    ]

    pub renewed_down :
        {r : ℕ} → (taken (i, old) (i, a) ≡ true → r ≡ old) × (taken (i, old) (i, a) ≡ false → r ≡ a)
        → Partner n label sizes sums i r
    renewed_down w = elim (bool? (taken (i, old) (i, a))) [
      | inl s ↦ rw (w.0 s) (renewed_keep (one_way old_two new_two s))
      | inr s ↦ rw (w.1 s) (renewed_new s)
    ]

-- The partners of the labels below c are found; one more is.
abbrev pub PartnersTo : (n : ℕ) (label sizes sums : List ℕ) (c : ℕ) (partners : List ℕ) → Type 0
PartnersTo n label sizes sums c partners =
    (i : ℕ) → i < c → get_or label i 0 ≡ i → Partner n label sizes sums i (get_or partners i 0)
