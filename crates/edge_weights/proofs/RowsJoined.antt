-- The rows of a listing as merges of what the arrays hold. A merge of two labels puts the node of their subtrees in the
-- place of both, and leaves every other subtree as it was held; so the arrays go from before a row to before the next.
use mathlib.Core.Path.{◌≡◌, refl, sym, ◌∙◌}
use mathlib.Core.Logic.{inl, inr, ◌≢◌}
use mathlib.Core.Bool.{true, false, ◌||◌, or-false}
use mathlib.Core.List.{List}
use Prim.Native.Nat.{ℕ, ◌+◌, ◌-◌, ◌*◌, ◌≤◌, ◌<◌}
use native.Mathlib.Nat.{mul-add, mul-zero, mul-le-mul, mul-le-mul_left}
use native.Mathlib.Omega.{arith}
use native.Mathlib.Decide.{ℕ_discrete}
use borrow.Author.Tests.{eqb-true, eq-eqb, ne_eqb}
use lib.Dec.{eqb}
use lib.ListN.{length, get_or, set, replicate, get_or-replicate, length-set}
use lib.Seq.{get_or-set_same, get_or-set_other}
use Rattle.base.specs.Lists.{filled}
use Rattle.base.proofs.Bools.{bool?, never, or_left, or_right, or_cases, or_neither, eqb_same}
use Rattle.base.proofs.Counts.{count_le}
use Rattle.base.proofs.Filling.{length_filled, getD_filled}
use Rattle.limits.specs.Limits.{most_leaves, most_nodes}
use Rattle.pair_counts.specs.Pairs.{P}
use Rattle.pair_counts.proofs.Pairs.{P_mono}
use Rattle.trees.specs.Trees.{Tree, leaf, node, leaves, size}
use Rattle.trees.specs.Listings.{subtree_at}
use Rattle.trees.proofs.Trees.{leaves_leaf, leaves_node, leaf_has, size_leaf, size_node, size_count, Distinct, Within}
use Rattle.trees.proofs.Trees.{apart_sym}
use Rattle.trees.proofs.BranchedPairs.{inner_sum, inner_sum_leaf, inner_sum_left, inner_sum_right, inner_sum_most}
use Rattle.trees.proofs.SubtreesByRow.{subtree_at_leaf, subtree_at_row, distinct_below}
use Rattle.state_arrays.specs.inner.Fits.{IsScale, ScaledCounts, SmallSums}
use Rattle.state_arrays.specs.inner.Merged.{relabelled, MergeReady, Merged}
use Rattle.state_arrays.proofs.StateArrays.{relabel_other, relabel_second, grow_first, grow_second, grow_none}
use Rattle.state_arrays.proofs.StateArrays.{merged_label, pa, pb, merged_sum, merged_long, counts_small}
use Rattle.edge_weights.specs.inner.Rows.{Given, Free, Held, BeforeRow}
use Rattle.edge_weights.proofs.FreeNumbers.{free_before, first_free, second_free}

-- Before the first row: each leaf has its own label.
module _ (n s : ℕ) (l : List ℕ) (few : n ≤ most_leaves) (label₀ firsts₀ : List ℕ) {label firsts : List ℕ}
    (labels : label ≡ filled n (λ k. k) label₀) (label_long : length label₀ ≡ most_leaves)
    (numbers : firsts ≡ filled n (λ k. k) firsts₀) (firsts_long : length firsts₀ ≡ most_nodes) where
  label_own : (k : ℕ) → k < n → get_or label k 0 ≡ k
  label_own k lk = rw labels (getD_filled (λ k. k) label₀ n k 0 lk)

  first_own : (k : ℕ) → k < n → get_or firsts k 0 ≡ k
  first_own k lk = rw numbers (getD_filled (λ k. k) firsts₀ n k 0 lk)

  leaf_held : (e : ℕ) → e < n → Held n s label (replicate most_leaves 0) (replicate most_leaves 1) e (leaf e)
  leaf_held e le = record {
    below = le;
    own = leaf_has e;
    labelled = λ j lj. rw (label_own j lj) (sym (leaves_leaf j e));
    sums = λ j lj here. get_or-replicate most_leaves j 0 0 (omega arith) ∙ rw inner_sum_leaf (sym (mul-zero s));
    sized = get_or-replicate most_leaves e 1 0 (omega arith) ∙ sym (size_leaf e);
  }

  pub rows_begun : BeforeRow n s l 0 label (replicate most_leaves 0) (replicate most_leaves 1) firsts
  rows_begun = record {
    label_long = rw labels (length_filled (λ k. k) label₀ n (omega arith) ∙ label_long);
    m_long = refl;
    sizes_long = refl;
    firsts_long = rw numbers (length_filled (λ k. k) firsts₀ n (omega arith) ∙ firsts_long);
    small = λ k lk. rw (get_or-replicate {A = ℕ} most_leaves k 0 0 (omega arith)) (omega arith);
    held = λ e f.
        let le : e < n = omega (arith, f.made) in
        rw (first_own e le, subtree_at_leaf n l e le) (leaf_held e le);
    differ = λ e d f g other.
        rw (first_own e (omega (arith, f.made)), first_own d (omega (arith, g.made))) other;
  }

-- the leaves with a held subtree's label are its leaves
held_in :
    {n s : ℕ} {label m sizes : List ℕ} {f : ℕ} {X : Tree} → Held n s label m sizes f X → (j : ℕ) → j < n
    → leaves X j ≡ true → get_or label j 0 ≡ f
held_in {label = label} {f = f} h j lj here = eqb-true (get_or label j 0) f (h.labelled j lj ∙ here)

held_out :
    {n s : ℕ} {label m sizes : List ℕ} {f : ℕ} {X : Tree} → Held n s label m sizes f X → (j : ℕ) → j < n
    → leaves X j ≡ false → get_or label j 0 ≢ f
held_out {label = label} {f = f} h j lj out same = never (sym (h.labelled j lj) ∙ eq-eqb _ f same) out

-- m at a leaf of a held subtree is at most the number of pairs of the subtree's leaves, at the scale
pub held_most :
    {n s : ℕ} {label m sizes : List ℕ} {f : ℕ} {X : Tree} → Held n s label m sizes f X → Distinct X → (j : ℕ) → j < n
    → leaves X j ≡ true → get_or m j 0 ≤ s * P (size X)
held_most {s = s} {X = X} h distinct j lj here =
    let most = P_mono (size X - 1) (size X) (omega arith) in
    rw (h.sums j lj here) (mul-le-mul_left s (omega (arith, inner_sum_most X j distinct)))

-- a tree's leaves below n are no more than n
pub size_fits : (n : ℕ) (X : Tree) → Distinct X → Within n X → size X ≤ n
size_fits n X distinct within = rw (size_count n X distinct within) (count_le n (leaves X))

-- who has a label after a merge of a and b: the label a, and one that is neither
relabel_joined : (x a b : ℕ) → eqb (relabelled x a b) a ≡ (eqb x a || eqb x b)
relabel_joined x a b = elim (ℕ_discrete x b) [
  | yes e ↦ rw (relabel_second x a b e, eqb_same a, eq-eqb x b e) (sym (or_right (eqb x a) true refl))
  | no d ↦ rw (relabel_other x a b d, ne_eqb x b d) (sym (or-false (eqb x a)))
]

relabel_kept : (x a b f : ℕ) → f ≢ a → f ≢ b → eqb (relabelled x a b) f ≡ eqb x f
relabel_kept x a b f da db = elim (ℕ_discrete x b) [
  | yes e ↦ rw (relabel_second x a b e, e, ne_eqb a f (λ q. da (sym q)), ne_eqb b f (λ q. db (sym q)))
  | no d ↦ rw (relabel_other x a b d)
]

-- A merge of two labels.
module _ {n s : ℕ} {label m sizes p label' m' sizes' : List ℕ} {a b : ℕ}
    (d : Merged n label m sizes p label' m' sizes' a b) where
  -- a subtree with another label stays as it was held
  kept : {f : ℕ} {X : Tree} → Held n s label m sizes f X → f ≢ a → f ≢ b → Held n s label' m' sizes' f X
  kept {f} h da db = record {
    below = h.below;
    own = h.own;
    labelled = λ j lj. rw (merged_label d j lj, relabel_kept (get_or label j 0) a b f da db) (h.labelled j lj);
    sums = λ j lj here.
        let is_f = held_in h j lj here in
        let none = grow_none (get_or label j 0) a b (pa d) (pb d) (rw is_f da) (rw is_f db) in
        omega (arith, merged_sum d j lj, none, h.sums j lj here);
    sized = rw (d.summed, get_or-set_other sizes a f (get_or sizes a 0 + get_or sizes b 0) 0 da) h.sized;
  }

  -- the two subtrees with these labels become one
  module _ {A B : Tree} (left : Held n s label m sizes a A) (right : Held n s label m sizes b B)
      (distinct : Distinct (node A B)) (within : Within n (node A B)) (counts : ScaledCounts n s p) where
    fits : size A + size B ≤ n
    fits = omega (arith, size_fits n (node A B) distinct within, size_node A B)

    sums_joined : (j : ℕ) → j < n → leaves (node A B) j ≡ true → get_or m' j 0 ≡ s * inner_sum (node A B) j
    sums_joined j lj here = merged_sum d j lj ∙ elim (or_cases (leaves A j) (leaves B j) (rw leaves_node at here)) [
      | inl q ↦
          rw (
            grow_first (get_or label j 0) a b (pa d) (pb d) (held_in left j lj q),
            left.sums j lj q,
            right.sized,
            counts (size B) (omega (arith, fits)),
            inner_sum_left A B j q (distinct.2 j q),
          )
          (sym (mul-add s _ _))
      | inr q ↦
          let out = apart_sym A B distinct.2 j q in
          rw (
            grow_second (get_or label j 0) a b (pa d) (pb d) (held_out left j lj out) (held_in right j lj q),
            right.sums j lj q,
            left.sized,
            counts (size A) (omega (arith, fits)),
            inner_sum_right A B j out q,
          )
          (sym (mul-add s _ _))
    ]

    joined : n ≤ length sizes → Held n s label' m' sizes' a (node A B)
    joined few = record {
      below = left.below;
      own = rw leaves_node (or_left _ _ left.own);
      labelled = λ j lj.
          rw (
            merged_label d j lj,
            relabel_joined (get_or label j 0) a b,
            left.labelled j lj,
            right.labelled j lj,
            leaves_node,
          );
      sums = sums_joined;
      sized =
          rw (d.summed, get_or-set_same sizes a (get_or sizes a 0 + get_or sizes b 0) 0 (omega (arith, left.below)))
          (rw (left.sized, right.sized) (sym (size_node A B)));
    }

    small_joined : n ≤ most_leaves → IsScale s → SmallSums n m → SmallSums n m'
    small_joined few scaled small j lj = elim (bool? (leaves (node A B) j)) [
      | inl here ↦
          let most = inner_sum_most (node A B) j distinct in
          let pairs = P_mono (size (node A B) - 1) most_leaves (omega (arith, fits, size_node A B)) in
          rw (sums_joined j lj here) (mul-le-mul scaled.1 (omega (arith, most, pairs)))
      | inr out ↦
          let neither = or_neither (leaves A j) (leaves B j) (rw leaves_node at out) in
          let none =
          grow_none (get_or label j 0) a b (pa d) (pb d) (held_out left j lj neither.0)
          (held_out right j lj neither.1) in
          omega (arith, merged_sum d j lj, none, small j lj)
    ]

-- Row k: the numbers x and y are its children, with the subtrees A and B.
module _ {n s : ℕ} {l t u p : List ℕ} (g : Given n s l t u p) {k : ℕ} (row : k < n - 2) where
  abbrev x : ℕ
  x = get_or l (2 * k) 0

  abbrev y : ℕ
  y = get_or l (2 * k + 1) 0

  abbrev A : Tree
  A = subtree_at n l (get_or l (2 * k) 0)

  abbrev B : Tree
  B = subtree_at n l (get_or l (2 * k + 1) 0)

  few : n ≤ most_leaves
  few = g.count.1

  node_is : subtree_at n l (n + k) ≡ node A B
  node_is = subtree_at_row n l g.count g.keeps k row

  pub node_distinct : Distinct (node A B)
  node_distinct = rw node_is at (distinct_below n l (n + k) g.count g.keeps (omega arith)).0

  node_within : Within n (node A B)
  node_within = rw node_is at (distinct_below n l (n + k) g.count g.keeps (omega arith)).1

  x_free : Free n l k x
  x_free = first_free n l g.count g.keeps k row

  y_free : Free n l k y
  y_free = second_free n l g.count g.keeps k row

  -- The arrays before the row: a and b are the labels of its children.
  module _ {label m sizes firsts : List ℕ} (w : BeforeRow n s l k label m sizes firsts) where
    abbrev a : ℕ
    a = get_or firsts (get_or l (2 * k) 0) 0

    abbrev b : ℕ
    b = get_or firsts (get_or l (2 * k + 1) 0) 0

    pub first_held : Held n s label m sizes a A
    first_held = w.held x x_free

    pub second_held : Held n s label m sizes b B
    second_held = w.held y y_free

    pub merge_ready : MergeReady n label m sizes p a b
    merge_ready = record {
      few = few;
      label_long = w.label_long;
      m_long = w.m_long;
      small = w.small;
      small_counts = counts_small n s p few g.scaled g.pair_counts;
      first = first_held.below;
      second = second_held.below;
      room =
          rw (first_held.sized, second_held.sized)
          (omega (arith, size_fits n (node A B) node_distinct node_within, size_node A B));
    }

    module _ {label' m' sizes' firsts' : List ℕ} (d : Merged n label m sizes p label' m' sizes' a b)
        (made : firsts' ≡ set firsts (n + k) a) where
      first_new : get_or firsts' (n + k) 0 ≡ a
      first_new = rw (made, get_or-set_same firsts (n + k) a 0 (omega (arith, few, w.firsts_long)))

      first_old : (e : ℕ) → e < n + k → get_or firsts' e 0 ≡ get_or firsts e 0
      first_old e le = rw (made, get_or-set_other firsts (n + k) e a 0 (omega arith))

      held_next : (e : ℕ) → Free n l (k + 1) e → Held n s label' m' sizes' (get_or firsts' e 0) (subtree_at n l e)
      held_next e f = elim (free_before f) [
        | inl new ↦
            let long : n ≤ length sizes = omega (arith, few, w.sizes_long) in
            rw (new, first_new, node_is)
            (joined d first_held second_held node_distinct node_within g.pair_counts long)
        | inr old ↦
            let not_a = w.differ e x old.0 x_free old.1 in
            let not_b = w.differ e y old.0 y_free old.2 in
            rw (first_old e old.0.made) (kept d (w.held e old.0) not_a not_b)
      ]

      -- the node has a child's label, which no other number has
      differ_new : (e : ℕ) → Free n l k e → e ≢ x → get_or firsts' (n + k) 0 ≢ get_or firsts' e 0
      differ_new e f other = rw (first_new, first_old e f.made) (w.differ x e x_free f (λ q. other (sym q)))

      differ_next : (e c : ℕ) → Free n l (k + 1) e → Free n l (k + 1) c → e ≢ c
          → get_or firsts' e 0 ≢ get_or firsts' c 0
      differ_next e c f h other same = elim (free_before f) [
        | inl new_e ↦ elim (free_before h) [
          | inl new_c ↦ omega arith
          | inr old_c ↦ differ_new c old_c.0 old_c.1 (rw new_e at same)
        ]
        | inr old_e ↦ elim (free_before h) [
          | inl new_c ↦ differ_new e old_e.0 old_e.1 (rw new_c at (sym same))
          | inr old_c ↦
              w.differ e c old_e.0 old_c.0 other
              (sym (first_old e old_e.0.made) ∙ same ∙ first_old c old_c.0.made)
        ]
      ]

      pub row_joined : BeforeRow n s l (k + 1) label' m' sizes' firsts'
      row_joined =
          let long = merged_long d (omega (arith, few, w.label_long)) (omega (arith, few, w.m_long)) in
          record {
            label_long = long.0 ∙ w.label_long;
            m_long = long.1 ∙ w.m_long;
            sizes_long = long.2 ∙ w.sizes_long;
            firsts_long = rw made (length-set firsts (n + k) a ∙ w.firsts_long);
            small =
                small_joined d first_held second_held node_distinct node_within g.pair_counts few g.scaled
                w.small;
            held = held_next;
            differ = differ_next;
          }
