-- The mean size of gap of two subtrees: it is 0 exactly when they are eligible, and neither their order nor the leaves
-- that name them matter. The pair that a guess merges: there is one where two subtrees are left, it is nearest, and no
-- other pair is.
use mathlib.Core.Path.{◌≡◌, refl, ap, ◌∙◌}
use mathlib.Core.Logic.{◌⊎◌, inl, inr, ◌↔◌}
use mathlib.Core.Bool.{Bool, true, false, not, ◌&&◌, ◌||◌, and_comm}
use mathlib.Core.List.{List, [], ◌∷◌}
use mathlib.Core.Option.{some}
use Prim.Native.Nat.{ℕ, ◌*◌, ◌<◌}
use native.Mathlib.Nat.{add_comm, mul_comm, mul-pos}
use native.Mathlib.Omega.{arith}
use native.Mathlib.Decide.{dec_lt}
use borrow.Author.Tests.{ltb-true, ltb-false, eqb-true, lt-ltb, eq-eqb, not-true}
use lib.Dec.{ltb, eqb}
use Rattle.base.specs.Numbers.{indicator, sum_below, distance, less}
use Rattle.base.specs.Lists.{tab, in_rows, any_in, all_in, find}
use Rattle.base.proofs.Bools.{never, is_false, and_both, and_is}
use Rattle.base.proofs.Counts.{indicator_none, indicator_when}
use Rattle.base.proofs.Sums.{zero_sum, sum_zero, sum_swap, sum2_ext, distance_same, distance_zero}
use Rattle.base.proofs.Lists.{every_imp}
use Rattle.base.proofs.Fractions.{less_irr, less_trans, less_mid}
use Rattle.base.proofs.RowOrder.{NotBehind, not_behind_same, every_in_rows, any_in_rows, First, found_first}
use Rattle.base.proofs.Least.{least_found}
use Rattle.pair_counts.specs.Pairs.{P}
use Rattle.trees.specs.Trees.{Tree, leaves, size, least, join, ordered}
use Rattle.trees.specs.Rerooting.{reroot_along, rerooted}
use Rattle.trees.specs.Listings.{number_in, post_order, standard}
use Rattle.trees.specs.Tables.{cell}
use Rattle.trees.proofs.Trees.{size_pos, least_in, least_differ}
use Rattle.merging.specs.Merging.{State, start, expected, eligible, merge, step}
use Rattle.merging.specs.MergeLists.{Pair, run, after, final_tree, final_listing}
use Rattle.merging.specs.Guesses.{gap_sum, mean, two_subtrees, smallest, nearest, IsNearest, by_mean, guess}
use Rattle.merging.specs.inner.Runs.{Differ, Eligible}
use Rattle.merging.proofs.States.{WellFormed, step_m_out, apart, clear_out}
use Rattle.merging.proofs.Runs.{eligible_sound, eligible_complete, EqualHalves}

-- five leaves whose guess is another tree by sums for means, by means in whole numbers, by one cell of each two
-- subtrees, and by other ties
guess_example :
    final_listing 5 (guess 5 1 (
    0 ∷ 1 ∷ 0 ∷ 2 ∷ 0
    ∷ 1 ∷ 0 ∷ 4 ∷ 4 ∷ 0
    ∷ 0 ∷ 4 ∷ 0 ∷ 0 ∷ 0
    ∷ 2 ∷ 4 ∷ 0 ∷ 0 ∷ 0
    ∷ 0 ∷ 0 ∷ 0 ∷ 0 ∷ 0
    ∷ []))
    ≡ 1 ∷ 4 ∷ 5 ∷ 2 ∷ 6 ∷ 3 ∷ []
unfolding guess by_mean nearest smallest two_subtrees mean gap_sum less distance sum_below expected P in_rows tab
    all_in find cell start step merge leaves size least join ordered rerooted reroot_along run after final_tree
    final_listing standard post_order number_in
guess_example = refl

module _ (n s : ℕ) (c : ℕ → ℕ → ℕ) (S : State) where
  -- what cell (x, y) adds to the sum of A and B
  abbrev part : Tree → Tree → ℕ → ℕ → ℕ
  part A B x y = indicator (leaves A x && leaves B y) (distance (c x y) (expected n s S A B x y))

  -- Two different subtrees have a mean of 0 exactly when they are eligible.
  zero_eligible :
      WellFormed n S → (i j : ℕ) → Differ n S i j → gap_sum n s c S (S.tree i) (S.tree j) ≡ 0 → Eligible n s c S i j
  unfolding gap_sum expected
  zero_eligible w i j d h = record {
    left = d.left;
    right = d.right;
    apart = d.apart;
    cells = λ x y p q.
        let A = S.tree i in
        let B = S.tree j in
        let row = sum_zero n (λ x. sum_below n (part A B x)) h x (w.below i x d.left p) in
        let here = sum_zero n (part A B x) row y (w.below j y d.right q) in
        distance_zero (c x y) (expected n s S A B x y) (rw (p, q) at here);
  }

  eligible_zero : (i j : ℕ) → Eligible n s c S i j → gap_sum n s c S (S.tree i) (S.tree j) ≡ 0
  unfolding gap_sum expected
  eligible_zero i j e = zero_sum n _ (λ x lx. zero_sum n _ (λ y ly.
      indicator_when (leaves (S.tree i) x && leaves (S.tree j) y) _ 0 (λ h.
      let b = and_both (leaves (S.tree i) x) (leaves (S.tree j) y) h in
      rw (e.cells x y b.0 b.1) (distance_same _))
      ∙ indicator_none (leaves (S.tree i) x && leaves (S.tree j) y)))

  pub mean_zero :
      WellFormed n S → (i j : ℕ) → Differ n S i j → ((mean n s c S (i, j)).0 ≡ 0) ↔ (eligible n s c S i j ≡ true)
  unfolding mean
  mean_zero w i j d = (
    λ h. eligible_complete (zero_eligible w i j d h),
    λ h. eligible_zero i j (eligible_sound s c w i j h),
  )

  -- The order of the two subtrees does not matter, nor which leaves name them.
  pub gap_sum_turn : EqualHalves n c → (A B : Tree) → gap_sum n s c S A B ≡ gap_sum n s c S B A
  unfolding gap_sum expected
  gap_sum_turn halves A B = sum_swap n n (part A B) ∙ sum2_ext n _ _ (λ y x ly lx.
      rw (
        and_comm (leaves A x) (leaves B y),
        halves x y lx ly,
        add_comm (size A) (size B),
        add_comm (S.m x) (S.m y),
      ))

  pub mean_turn : EqualHalves n c → (x y : ℕ) → mean n s c S (x, y) ≡ mean n s c S (y, x)
  unfolding mean
  mean_turn halves x y =
      rw (gap_sum_turn halves (S.tree x) (S.tree y), mul_comm (size (S.tree x)) (size (S.tree y)))

  pub mean_move :
      (x y a b : ℕ) → S.tree a ≡ S.tree x → S.tree b ≡ S.tree y → mean n s c S (a, b) ≡ mean n s c S (x, y)
  unfolding mean
  mean_move x y a b p q = rw (p, q)

  -- Two subtrees have a cell, so means compare as fractions do.
  mean_pos : (p : Pair) → 0 < (mean n s c S p).1
  unfolding mean
  mean_pos p = mul-pos (size_pos (S.tree p.0)) (size_pos (S.tree p.1))

  -- the mean of q is less than that of p
  abbrev under : Pair → Pair → Bool
  under q p = less (mean n s c S q) (mean n s c S p)

  under_trans : (x y z : Pair) → under x y ≡ true → under y z ≡ true → under x z ≡ true
  under_trans x y z =
      less_trans (mean n s c S x) (mean n s c S y) (mean n s c S z) (mean_pos x) (mean_pos y) (mean_pos z)

  -- a mean than which 0 is not less is 0
  pub zero_most : (p q : Pair) → (mean n s c S q).0 ≡ 0 → under q p ≡ false → (mean n s c S p).0 ≡ 0
  unfolding less
  zero_most p q z h =
      let over = ltb-false ((mean n s c S q).0 * (mean n s c S p).1) ((mean n s c S p).0 * (mean n s c S q).1) h in
      elim (dec_lt 0 (mean n s c S p).0) [
        | yes l ↦ absurd (omega (arith, mul-pos l (mean_pos q), rw z at over))
        | no g ↦ omega arith
      ]

-- A merge of two other subtrees leaves the sum of two as it was.
pub gap_sum_keep :
    (n s : ℕ) (c : ℕ → ℕ → ℕ) {S : State} → WellFormed n S → (a b i j : ℕ)
    → (leaves (S.tree a) i || leaves (S.tree b) i) ≡ false → (leaves (S.tree a) j || leaves (S.tree b) j) ≡ false
    → gap_sum n s c (step S a b) (S.tree i) (S.tree j) ≡ gap_sum n s c S (S.tree i) (S.tree j)
unfolding gap_sum expected
gap_sum_keep n s c {S} w a b i j io jo = sum2_ext n _ _ (λ x y lx ly.
    indicator_when (leaves (S.tree i) x && leaves (S.tree j) y) _ _ (λ h.
    let r = and_both (leaves (S.tree i) x) (leaves (S.tree j) y) h in
    rw (
      step_m_out S a b x (clear_out w a b i x io r.0),
      step_m_out S a b y (clear_out w a b j y jo r.1),
    )))

-- Subtrees named by their least leaves.
module _ {n : ℕ} {S : State} (w : WellFormed n S) where
  pub leader : (x : ℕ) → S.tree (least (S.tree x)) ≡ S.tree x
  leader x = w.closed x (least (S.tree x)) (least_in (S.tree x))

  pub leader_below : (x : ℕ) → x < n → least (S.tree x) < n
  leader_below x l = w.below x (least (S.tree x)) l (least_in (S.tree x))

  one_first :
      (x y : ℕ) → Differ n S x y → (least (S.tree x) < least (S.tree y)) ⊎ (least (S.tree y) < least (S.tree x))
  one_first x y d = elim (dec_lt (least (S.tree x)) (least (S.tree y))) [
    | yes l ↦ inl l
    | no g ↦ inr (omega (arith, least_differ (S.tree x) (S.tree y) (apart w x y d.apart)))
  ]

  are_two :
      (x y : ℕ) → least (S.tree x) < least (S.tree y) → two_subtrees S (least (S.tree x), least (S.tree y)) ≡ true
  unfolding two_subtrees
  are_two x y l =
      and_is _ _ (lt-ltb _ _ l)
      (and_is _ _ (eq-eqb _ _ (ap least (leader x))) (eq-eqb _ _ (ap least (leader y))))

  record Two (p : Pair) : Type 0 where
    rising : p.0 < p.1
    least_first : least (S.tree p.0) ≡ p.0
    least_other : least (S.tree p.1) ≡ p.1
    different : leaves (S.tree p.0) p.1 ≡ false

  two_are : (p : Pair) → two_subtrees S p ≡ true → Two p
  unfolding two_subtrees
  two_are p h =
      let first = eqb (least (S.tree p.0)) p.0 in
      let other = eqb (least (S.tree p.1)) p.1 in
      let a = and_both (ltb p.0 p.1) (first && other) h in
      let b = and_both first other a.1 in
      let l = ltb-true p.0 p.1 a.0 in
      let e = eqb-true (least (S.tree p.0)) p.0 b.0 in
      let f = eqb-true (least (S.tree p.1)) p.1 b.1 in
      record {
        rising = l;
        least_first = e;
        least_other = f;
        different = is_false (leaves (S.tree p.0) p.1) (λ t.
            let same : S.tree p.1 ≡ S.tree p.0 = w.closed p.0 p.1 t in
            omega (arith, rw same at f));
      }

-- The pair that is merged.
pub nearest_differ :
    {n s : ℕ} {c : ℕ → ℕ → ℕ} {S : State} {p : Pair} → IsNearest n s c S p → Differ n S p.0 p.1
nearest_differ f = record { left = omega (arith, f.rising, f.below); right = f.below; apart = f.different }

module _ (n s : ℕ) (t : List ℕ) (halves : EqualHalves n (cell n t)) {S : State} (w : WellFormed n S) where
  abbrev c : ℕ → ℕ → ℕ
  c = cell n t

  -- where two different subtrees are left, there is one
  pub nearest_some : (x y : ℕ) → Differ n S x y → (p : Pair) × (nearest n s t S ≡ some p)
  unfolding nearest smallest
  nearest_some x y d =
      least_found (two_subtrees S) (under n s c S) (under_trans n s c S) (λ p. less_irr (mean n s c S p)) (in_rows n)
      (0, 0) (elim (one_first w x y d) [
        | inl l ↦ two x y d.left d.right l
        | inr l ↦ two y x d.right d.left l
      ])
    where
      two :
          (x y : ℕ) → x < n → y < n → least (S.tree x) < least (S.tree y)
          → any_in (two_subtrees S) (in_rows n) ≡ true
      two x y lx ly l =
          any_in_rows n (two_subtrees S) _ _ (leader_below w x lx) (leader_below w y ly) (are_two w x y l)

  -- it is nearest
  pub nearest_is : (p : Pair) → nearest n s t S ≡ some p → IsNearest n s c S p
  unfolding nearest smallest
  nearest_is p h = record {
    rising = two.rising;
    below = f.right;
    different = two.different;
    least_first = two.least_first;
    least_other = two.least_other;
    smallest_mean = λ x y lx ly d. elim (one_first w x y (record { left = lx; right = ly; apart = d })) [
      | inl l ↦ small x y lx ly l
      | inr l ↦ rw (mean_turn n s c S halves x y) (small y x ly lx l)
    ];
    ties = λ x y lx ly d l e.
        let here = and_is _ _ (are_two w x y l) (as_small x y e) in
        f.before (least (S.tree x)) (least (S.tree y)) (leader_below w x lx) (leader_below w y ly) here;
  }
    where
      test : Pair → Bool
      test p = two_subtrees S p && smallest n s c S p

      f : First n test p
      f = found_first n test p h

      both : (two_subtrees S p ≡ true) × (smallest n s c S p ≡ true)
      both = and_both (two_subtrees S p) (smallest n s c S p) f.passes

      two : Two w p
      two = two_are w p both.0

      -- two subtrees, each named by some leaf, as their least leaves name them
      named : (x y : ℕ) → mean n s c S (least (S.tree x), least (S.tree y)) ≡ mean n s c S (x, y)
      named x y = mean_move n s c S x y (least (S.tree x)) (least (S.tree y)) (leader w x) (leader w y)

      small : (x y : ℕ) → x < n → y < n → least (S.tree x) < least (S.tree y) → under n s c S (x, y) p ≡ false
      small x y lx ly l =
          let q : Pair = (least (S.tree x), least (S.tree y)) in
          let r = every_in_rows n (λ q. not (two_subtrees S q && under n s c S q p)) both.1 q.0 q.1
          (leader_below w x lx) (leader_below w y ly) in
          rw (named x y) at (not-true (under n s c S q p) (rw (are_two w x y l) at r))

      -- where the mean of x and y is no larger than p's, none is smaller than it either
      as_small :
          (x y : ℕ) → under n s c S p (x, y) ≡ false → smallest n s c S (least (S.tree x), least (S.tree y)) ≡ true
      as_small x y e =
          rw (named x y)
          (every_imp (λ q. not (two_subtrees S q && under n s c S q p))
          (λ q. not (two_subtrees S q && under n s c S q (x, y))) (in_rows n) still both.1)
        where
          still :
              (q : Pair) → not (two_subtrees S q && under n s c S q p) ≡ true
              → not (two_subtrees S q && under n s c S q (x, y)) ≡ true
          still q g = rw (is_false (two_subtrees S q && under n s c S q (x, y)) (λ u.
              let b = and_both (two_subtrees S q) (under n s c S q (x, y)) u in
              let q_p = less_mid (mean n s c S q) (mean n s c S (x, y)) (mean n s c S p) (mean_pos n s c S (x, y))
              (mean_pos n s c S p) b.1 e in
              never (and_is _ _ b.0 q_p) (not-true (two_subtrees S q && under n s c S q p) g)))

  -- and no other pair is
  not_behind : (p q : Pair) → IsNearest n s c S p → IsNearest n s c S q → NotBehind p q
  not_behind p q f g =
      let dp = nearest_differ f in
      let dq = nearest_differ g in
      let up : least (S.tree q.0) < least (S.tree q.1) = rw (g.least_first, g.least_other) g.rising in
      let no_larger = g.smallest_mean p.0 p.1 dp.left dp.right dp.apart in
      rw (g.least_first, g.least_other)
      at (f.ties q.0 q.1 dq.left dq.right dq.apart up no_larger)

  pub nearest_same : (p q : Pair) → IsNearest n s c S p → IsNearest n s c S q → p ≡ q
  nearest_same p q f g = not_behind_same p q (not_behind p q f g) (not_behind q p g f)

  pub nearest_only : (p : Pair) → IsNearest n s c S p → nearest n s t S ≡ some p
  nearest_only p g =
      let r = nearest_some p.0 p.1 (nearest_differ g) in
      r.1 ∙ ap some (nearest_same r.0 p (nearest_is r.0 r.1) g)
