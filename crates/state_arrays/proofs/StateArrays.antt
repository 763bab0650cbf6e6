-- The arrays and the state that they hold: labels say which leaves a subtree has, the tests whether two are eligible,
-- and a merge of the arrays is a step of the state; at the start they hold single leaves.
use mathlib.Core.Path.{◌≡◌, refl, ap, sym, ◌∙◌}
use mathlib.Core.Logic.{◌≢◌, inl, inr}
use mathlib.Core.Bool.{true, false, ◌||◌}
use mathlib.Core.List.{List}
use Prim.Native.Nat.{ℕ, ◌+◌, ◌-◌, ◌*◌, ◌≤◌, ◌<◌}
use native.Mathlib.Nat.{mul-add, mul-zero, mul-one, mul-le-mul}
use native.Mathlib.Omega.{arith}
use native.Mathlib.Decide.{ℕ_discrete}
use borrow.Author.Tests.{ne_eqb}
use lib.ListN.{length, get_or, replicate, get_or-replicate, length-set}
use lib.Seq.{get_or-set_same, get_or-set_other}
use Rattle.base.specs.Lists.{filled}
use Rattle.base.proofs.Bools.{bool?, never, is_false, or_left, or_right, or_none, or_neither, eqb_same}
use Rattle.base.proofs.Counts.{count_le}
use Rattle.base.proofs.Filling.{length_filled, getD_filled}
use Rattle.limits.specs.declared.Kind.{Kind}
use Rattle.limits.specs.Limits.{most_leaves, IsLeafCount, scale_of}
use Rattle.limits.proofs.TableKinds.{scale_bounds}
use Rattle.pair_counts.specs.Pairs.{P}
use Rattle.pair_counts.proofs.Pairs.{P_mono}
use Rattle.trees.specs.Trees.{Tree, leaves, size, least, join}
use Rattle.trees.specs.Tables.{cell, IsTable}
use Rattle.trees.proofs.Trees.{least_in, least_join, size_join}
use Rattle.merging.specs.Merging.{State, start, step}
use Rattle.merging.proofs.States.{WellFormed, step_in, step_out, step_m_left, step_m_right, step_m_out, apart}
use Rattle.merging.proofs.States.{two_fit}
use Rattle.merging.specs.inner.Runs.{Differ, Eligible}
use Rattle.merging.proofs.Values.{m_most}
use Rattle.state_arrays.specs.inner.Fits.{IsScale, ScaledCounts, counts_scale, Given, SmallSums, SubtreesFit}
use Rattle.state_arrays.specs.inner.Fits.{SizesFit, TwoLabels}
use Rattle.state_arrays.specs.inner.Merged.{relabelled, label_at, m_at, MergeReady}
use Rattle.state_arrays.specs.inner.Merged as Merged
use Rattle.state_arrays.specs.inner.StateArrays.{HoldsState}
use Rattle.state_arrays.proofs.Fits.{both_fit}

-- what a rebuild is given, as it is made: pair counts have their scale at two leaves
pub counts_given :
    (kind : Kind) (n : ℕ) (t p : List ℕ) → IsLeafCount n → IsTable n t → ScaledCounts n (scale_of kind) p
    → (counts_scale p ≡ scale_of kind) × Given n (counts_scale p) t p
unfolding P
counts_given kind n t p count is_table counts =
    let e : get_or p 2 0 ≡ scale_of kind = counts 2 (omega (arith, count)) ∙ mul-one (scale_of kind) in
    (e, rw e (record { leaf_count = count; is_table = is_table; scaled = scale_bounds kind; pair_counts = counts }))

-- The labels after a merge, and what m grows by.
pub relabel_other : (l a b : ℕ) → l ≢ b → relabelled l a b ≡ l
unfolding relabelled
relabel_other l a b d = rw (ne_eqb l b d)

pub relabel_second : (l a b : ℕ) → l ≡ b → relabelled l a b ≡ a
unfolding relabelled
relabel_second l a b e = rw (e, eqb_same b)

pub grow_first : (l a b pa pb : ℕ) → l ≡ a → Merged.growth l a b pa pb ≡ pb
unfolding Merged.growth
grow_first l a b pa pb e = rw (e, eqb_same a)

pub grow_second : (l a b pa pb : ℕ) → l ≢ a → l ≡ b → Merged.growth l a b pa pb ≡ pa
unfolding Merged.growth
grow_second l a b pa pb d e = rw (ne_eqb l a d, e, eqb_same b)

pub grow_none : (l a b pa pb : ℕ) → l ≢ a → l ≢ b → Merged.growth l a b pa pb ≡ 0
unfolding Merged.growth
grow_none l a b pa pb d e = rw (ne_eqb l a d, ne_eqb l b e)

-- What a merge of the labels a and b makes of the arrays, leaf by leaf, and that they stay as long.
module _ {n : ℕ} {label m sizes p label' m' sizes' : List ℕ} {a b : ℕ}
    (d : Merged.Merged n label m sizes p label' m' sizes' a b) where
  pub merged_label : (x : ℕ) → x < n → get_or label' x 0 ≡ relabelled (get_or label x 0) a b
  merged_label x lx =
      rw (d.gathered.labels, getD_filled (label_at label a b) label n x 0 lx) (unfold label_at in refl)

  -- the pairs of either subtree
  abbrev pub pa : ℕ
  pa = get_or p (get_or sizes a 0) 0

  abbrev pub pb : ℕ
  pb = get_or p (get_or sizes b 0) 0

  pub merged_sum : (x : ℕ) → x < n → get_or m' x 0 ≡ get_or m x 0 + Merged.growth (get_or label x 0) a b pa pb
  merged_sum x lx = rw (d.gathered.sums, getD_filled (m_at label m a b pa pb) m n x 0 lx) (unfold m_at in refl)

  pub merged_long :
      n ≤ length label → n ≤ length m
      → (length label' ≡ length label) × (length m' ≡ length m) × (length sizes' ≡ length sizes)
  merged_long few_labels few_sums = (
    rw d.gathered.labels (length_filled _ label n few_labels),
    rw d.gathered.sums (length_filled _ m n few_sums),
    rw d.summed (length-set sizes a (get_or sizes a 0 + get_or sizes b 0)),
  )

-- pair counts at a scale are small
pub counts_small :
    (n s : ℕ) (p : List ℕ) → n ≤ most_leaves → IsScale s → ScaledCounts n s p → SmallSums (n + 1) p
counts_small n s p few scaled counts k l =
    rw (counts k (omega arith)) (mul-le-mul scaled.1 (P_mono k most_leaves (omega arith)))

module _ {n s : ℕ} {S : State} (w : WellFormed n S) {label m sizes : List ℕ} (h : HoldsState n s label m sizes S) where
  -- a label i: the leaves labelled i are those of its subtree
  module _ (i : ℕ) (li : i < n) (own : get_or label i 0 ≡ i) where
    pub is_least : least (S.tree i) ≡ i
    is_least = sym (h.labels i li) ∙ own

    pub in_label : (x : ℕ) → x < n → get_or label x 0 ≡ i → leaves (S.tree i) x ≡ true
    in_label x lx p =
        let i_in : leaves (S.tree x) i ≡ true = rw (sym (h.labels x lx) ∙ p) at (least_in (S.tree x)) in
        rw (w.closed x i i_in) (w.own x)

    pub label_in : (x : ℕ) → x < n → leaves (S.tree i) x ≡ true → get_or label x 0 ≡ i
    label_in x lx p = h.labels x lx ∙ ap least (w.closed i x p) ∙ is_least

    pub label_out : (x : ℕ) → x < n → leaves (S.tree i) x ≡ false → get_or label x 0 ≢ i
    label_out x lx p e = never (in_label x lx e) p

    pub two_apart : (k : ℕ) → k < n → get_or label k 0 ≡ k → i ≢ k → leaves (S.tree i) k ≡ false
    two_apart k lk ok d = is_false (leaves (S.tree i) k) (λ p. d (sym (label_in k lk p) ∙ ok))

  -- the test of two labels says whether their subtrees are eligible
  module _ {t p : List ℕ} (g : Given n s t p) (i k : ℕ) (li : i < n) (lk : k < n) (oi : get_or label i 0 ≡ i)
      (ok : get_or label k 0 ≡ k) where
    pub expected_is :
        (x y : ℕ) → x < n → y < n
        → (get_or p (n - (get_or sizes i 0 + get_or sizes k 0)) 0 + get_or m x 0) + get_or m y 0
        ≡ s * (P (n - (size (S.tree i) + size (S.tree k))) + (S.m x + S.m y))
    expected_is x y lx ly =
        rw (
          h.sized i li oi,
          h.sized k lk ok,
          g.pair_counts (n - (size (S.tree i) + size (S.tree k))) (omega arith),
          h.sums x lx,
          h.sums y ly,
          mul-add,
        )
        (rw mul-add (omega arith))

    pub fits_eligible : i ≢ k → SubtreesFit n t label m sizes p i k → Eligible n s (cell n t) S i k
    fits_eligible d q = record {
      left = li;
      right = lk;
      apart = two_apart i li oi k lk ok d;
      cells = λ x y px py.
          let lx = w.below i x li px in
          let ly = w.below k y lk py in
          q x y lx ly (label_in i li oi x lx px) (label_in k lk ok y ly py) ∙ expected_is x y lx ly;
    }

    pub eligible_fits : Eligible n s (cell n t) S i k → SubtreesFit n t label m sizes p i k
    eligible_fits e x y lx ly px py =
        e.cells x y (in_label i li oi x lx px) (in_label k lk ok y ly py) ∙ sym (expected_is x y lx ly)

  -- what a test has to know
  module _ {t p : List ℕ} (g : Given n s t p) where
    small : SmallSums n m
    small k l =
        let size_le : size (S.tree k) ≤ n = rw (w.sized k l) (count_le n (leaves (S.tree k))) in
        let most = P_mono (size (S.tree k) - 1) most_leaves (omega (arith, g.leaf_count)) in
        rw (h.sums k l) (mul-le-mul g.scaled.1 (omega (arith, m_most w k, most)))

    pub fair : SizesFit n t label m sizes p
    fair = record {
      few = g.leaf_count.1;
      is_table = g.is_table;
      small_counts = counts_small n s p g.leaf_count.1 g.scaled g.pair_counts;
      small = small;
      room = λ a b la lb d oa ob.
          rw (h.sized a la oa, h.sized b lb ob) (two_fit w a b la lb (two_apart a la oa b lb ob d));
    }

  -- what a merge has to know
  pub two_merges : {t p : List ℕ} {a b : ℕ} → TwoLabels n t label m sizes p a b → MergeReady n label m sizes p a b
  two_merges q = record {
    few = q.fair.few;
    label_long = h.label_long;
    m_long = h.m_long;
    small = q.fair.small;
    small_counts = q.fair.small_counts;
    first = q.first;
    second = q.second;
    room = both_fit q;
  }

  -- A merge of the subtrees labelled i and k, i < k.
  module _ (i k : ℕ) (ik : i < k) (oi : get_or label i 0 ≡ i) (ok : get_or label k 0 ≡ k) (e : Differ n S i k)
      {t p : List ℕ} (g : Given n s t p) {label' m' sizes' : List ℕ}
      (d : Merged.Merged n label m sizes p label' m' sizes' i k) where
    few : n ≤ most_leaves
    few = g.leaf_count.1

    abbrev A : Tree
    A = S.tree i

    abbrev B : Tree
    B = S.tree k

    pub least_both : least (join A B) ≡ i
    least_both =
        let oi' = is_least i e.left oi in
        least_join A B (rw (oi', is_least k e.right ok) ik) ∙ oi'

    pub label_is : (x : ℕ) → x < n → get_or label' x 0 ≡ relabelled (get_or label x 0) i k
    label_is = merged_label d

    labels' : (x : ℕ) → x < n → get_or label' x 0 ≡ least ((step S i k).tree x)
    labels' x lx = label_is x lx ∙ elim (bool? (leaves A x)) [
      | inl p ↦
          let is_i = label_in i e.left oi x lx p in
          rw (step_in S i k x (or_left _ _ p), least_both) (relabel_other _ i k (omega arith) ∙ is_i)
      | inr p ↦ elim (bool? (leaves B x)) [
        | inl q ↦
            rw (step_in S i k x (or_right (leaves A x) _ q), least_both)
            (relabel_second _ i k (label_in k e.right ok x lx q))
        | inr q ↦
            rw (step_out S i k x (or_none _ _ p q))
            (relabel_other _ i k (label_out k e.right ok x lx q) ∙ h.labels x lx)
      ]
    ]

    joined_fit : size A + size B ≤ n
    joined_fit = two_fit w i k e.left e.right e.apart

    pa_is : pa d ≡ s * P (size A)
    pa_is = rw (h.sized i e.left oi) (g.pair_counts (size A) (omega (arith, joined_fit)))

    pb_is : pb d ≡ s * P (size B)
    pb_is = rw (h.sized k e.right ok) (g.pair_counts (size B) (omega (arith, joined_fit)))

    sums' : (x : ℕ) → x < n → get_or m' x 0 ≡ s * (step S i k).m x
    sums' x lx = merged_sum d x lx ∙ rw (h.sums x lx) (elim (bool? (leaves A x)) [
      | inl p ↦
          rw (
            grow_first (get_or label x 0) i k (pa d) (pb d) (label_in i e.left oi x lx p),
            pb_is,
            step_m_left S i k x p (apart w i k e.apart x p),
          )
          (sym (mul-add s _ _))
      | inr p ↦ elim (bool? (leaves B x)) [
        | inl q ↦
            let not_i = label_out i e.left oi x lx p in
            let is_k = label_in k e.right ok x lx q in
            rw (grow_second (get_or label x 0) i k (pa d) (pb d) not_i is_k, pa_is, step_m_right S i k x p q)
            (sym (mul-add s _ _))
        | inr q ↦
            let not_i = label_out i e.left oi x lx p in
            let not_k = label_out k e.right ok x lx q in
            let none = grow_none (get_or label x 0) i k (pa d) (pb d) not_i not_k in
            rw (none, step_m_out S i k x (or_none _ _ p q)) (omega arith)
      ]
    ])

    -- a label other than i that stands after the merge stood before, is not k, and its subtree is as it was
    pub still :
        (x : ℕ) → x < n → get_or label' x 0 ≡ x → x ≢ i
        → (get_or label x 0 ≡ x) × (x ≢ k) × ((step S i k).tree x ≡ S.tree x)
    still x lx o z = elim (bool? (leaves A x || leaves B x)) [
      | inl p ↦ absurd (z (sym o ∙ labels' x lx ∙ rw (step_in S i k x p) least_both))
      | inr p ↦
          let kept = step_out S i k x p in
          let not_k : x ≢ k = λ q. never (rw q (w.own k)) (or_neither (leaves A x) (leaves B x) p).1 in
          (h.labels x lx ∙ rw (← kept) (sym (labels' x lx) ∙ o), not_k, kept)
    ]

    inside : i < length sizes
    inside = rw h.sizes_long (omega (arith, few, e.left))

    sized' : (x : ℕ) → x < n → get_or label' x 0 ≡ x → get_or sizes' x 0 ≡ size ((step S i k).tree x)
    sized' x lx o = rw d.summed (elim (ℕ_discrete x i) [
      | yes z ↦
          rw (
            z,
            get_or-set_same sizes i (get_or sizes i 0 + get_or sizes k 0) 0 inside,
            step_in S i k i (or_left _ _ (w.own i)),
            size_join,
            h.sized i e.left oi,
            h.sized k e.right ok,
          )
      | no z ↦
          let u = still x lx o z in
          rw (get_or-set_other sizes i x (get_or sizes i 0 + get_or sizes k 0) 0 z, u.2) (h.sized x lx u.0)
    ])

    pub holds_step : HoldsState n s label' m' sizes' (step S i k)
    holds_step =
        let long = merged_long d (rw h.label_long few) (rw h.m_long few) in
        record {
          label_long = long.0 ∙ h.label_long;
          m_long = long.1 ∙ h.m_long;
          sizes_long = long.2 ∙ h.sizes_long;
          labels = labels';
          sums = sums';
          sized = sized';
        }

-- Single leaves: the arrays as they are made, with each leaf's own label.
module _ (n : ℕ) (few : n ≤ most_leaves) where
  pub filled_own : {l : List ℕ} → l ≡ filled n (λ k. k) (replicate most_leaves 0) → (k : ℕ) → k < n → get_or l k 0 ≡ k
  filled_own e k l = rw e (getD_filled (λ k. k) (replicate most_leaves 0) n k 0 l)

  pub filled_long : {l : List ℕ} → l ≡ filled n (λ k. k) (replicate most_leaves 0) → length l ≡ most_leaves
  filled_long e = rw e (length_filled (λ k. k) (replicate most_leaves 0) n few)

  pub holds_start :
      {s : ℕ} {label : List ℕ} → label ≡ filled n (λ k. k) (replicate most_leaves 0)
      → HoldsState n s label (replicate most_leaves 0) (replicate most_leaves 1) start
  unfolding start least size
  holds_start {s} e = record {
    label_long = filled_long e;
    m_long = refl;
    sizes_long = refl;
    labels = filled_own e;
    sums = λ k l. get_or-replicate most_leaves k 0 0 (omega arith) ∙ sym (mul-zero s);
    sized = λ k l o. get_or-replicate most_leaves k 1 0 (omega arith);
  }
