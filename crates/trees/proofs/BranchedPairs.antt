-- Pairs set aside from a leaf: the pairs of other leaves that some subtree holds without it. Their number is the inner
-- sum, which adds up P of the sizes of the subtrees that branch off on the way to the leaf.
use mathlib.Core.Path.{◌≡◌, refl, ◌∙◌}
use mathlib.Core.Logic.{inl, inr}
use mathlib.Core.Bool.{Bool, true, false, not, ◌&&◌, ◌||◌, and-false, or_comm}
use mathlib.Core.Option.{none}
use Prim.Native.Nat.{ℕ, ◌+◌, ◌-◌, ◌≤◌, ◌<◌}
use native.Mathlib.Nat.{add_comm}
use native.Mathlib.Omega.{arith}
use lib.Dec.{ltb}
use Rattle.base.specs.Numbers.{indicator}
use Rattle.base.specs.Lists.{any_in}
use Rattle.base.proofs.Bools.{bool?, never, is_false, bool_iff, or_none, or_cases, or_neither, and_both, and_is}
use Rattle.pair_counts.specs.Pairs.{P, pairs_below}
use Rattle.pair_counts.proofs.Pairs.{P_le, pairs_ext, pairs_or, pairs_false, pairs_both}
use Rattle.trees.specs.Trees.{Tree, leaf, node, leaves, size, least, join}
use Rattle.trees.specs.Edges.{edges}
use Rattle.trees.proofs.Trees.{leaves_node, Apart, apart_sym, Distinct, Within, within_left, within_right}
use Rattle.trees.proofs.Trees.{size_node, size_pos, size_count}
use Rattle.trees.proofs.Subtrees.{in_whole, sub_of, any_leaf, any_node, any_edge, the_edge}

-- some subtree of X holds p and q and not i
unfoldable pub branched : Tree → ℕ → ℕ → ℕ → Bool
branched X i p q = any_in (λ e. (e p && e q) && not (e i)) (edges X)

-- the number of pairs that subtrees of X set aside from i, by the sizes of the subtrees that branch off on the way to i
unfoldable pub inner_sum : Tree → ℕ → ℕ
inner_sum (leaf x) i = 0
inner_sum (node X Y) i =
    indicator (leaves X i) (inner_sum X i + P (size Y)) + indicator (leaves Y i) (inner_sum Y i + P (size X))

pub branched_leaf :
    (x i p q : ℕ) → branched (leaf x) i p q ≡ ((leaves (leaf x) p && leaves (leaf x) q) && not (leaves (leaf x) i))
unfolding branched
branched_leaf x i p q = any_leaf (λ e. (e p && e q) && not (e i)) x

pub branched_node :
    (X Y : Tree) (i p q : ℕ)
    → branched (node X Y) i p q
    ≡ (((leaves (node X Y) p && leaves (node X Y) q) && not (leaves (node X Y) i))
    || (branched X i p q || branched Y i p q))
unfolding branched
branched_node X Y i p q = any_node (λ e. (e p && e q) && not (e i)) X Y

-- only leaves of X are set aside in X
pub branched_in : (X : Tree) (i p q : ℕ) → branched X i p q ≡ true → (leaves X p ≡ true) × (leaves X q ≡ true)
unfolding branched
branched_in X i p q h =
    let r = the_edge (λ e. (e p && e q) && not (e i)) X h in
    let both = and_both (leaves r.0 p && leaves r.0 q) (not (leaves r.0 i)) r.2 in
    let t = and_both (leaves r.0 p) (leaves r.0 q) both.0 in
    (sub_of X r.0 r.1 p t.0, sub_of X r.0 r.1 q t.1)

pub branched_not : (X : Tree) (i p q : ℕ) → leaves X p ≡ false → branched X i p q ≡ false
branched_not X i p q h = is_false (branched X i p q) (λ t. never (branched_in X i p q t).0 h)

-- a subtree without i sets all of its pairs aside
pub branched_out : (X : Tree) (i p q : ℕ) → leaves X i ≡ false → branched X i p q ≡ (leaves X p && leaves X q)
branched_out X i p q h = bool_iff _ _ (λ t. (let r = branched_in X i p q t in and_is _ _ r.0 r.1)) (whole X h)
  where
    whole : (X : Tree) → leaves X i ≡ false → (leaves X p && leaves X q) ≡ true → branched X i p q ≡ true
    whole X h t =
        unfold branched in any_edge (λ e. (e p && e q) && not (e i)) X X (in_whole X) (rw (t, h))

-- seen from the child that holds i
branched_left :
    (X Y : Tree) (i p q : ℕ) → leaves X i ≡ true → leaves Y i ≡ false
    → branched (node X Y) i p q ≡ (branched X i p q || (leaves Y p && leaves Y q))
branched_left X Y i p q a b =
    rw (
      branched_node,
      branched_out Y i p q b,
      leaves_node i X Y,
      a,
      and-false (leaves (node X Y) p && leaves (node X Y) q),
    )

branched_right :
    (X Y : Tree) (i p q : ℕ) → leaves X i ≡ false → leaves Y i ≡ true
    → branched (node X Y) i p q ≡ (branched Y i p q || (leaves X p && leaves X q))
branched_right X Y i p q a b =
    let none = and-false (leaves (node X Y) p && leaves (node X Y) q) in
    rw (branched_node, branched_out X i p q a, leaves_node i X Y, a, b, none)
    (or_comm (leaves X p && leaves X q) (branched Y i p q))

pub inner_sum_leaf : (x i : ℕ) → inner_sum (leaf x) i ≡ 0
unfolding inner_sum
inner_sum_leaf x i = refl

pub inner_sum_left :
    (X Y : Tree) (i : ℕ) → leaves X i ≡ true → leaves Y i ≡ false → inner_sum (node X Y) i ≡ inner_sum X i + P (size Y)
unfolding inner_sum
inner_sum_left X Y i a b = rw (a, b) (omega arith)

pub inner_sum_right :
    (X Y : Tree) (i : ℕ) → leaves X i ≡ false → leaves Y i ≡ true → inner_sum (node X Y) i ≡ inner_sum Y i + P (size X)
unfolding inner_sum
inner_sum_right X Y i a b = rw (a, b) (omega arith)

pub inner_sum_out : (Z : Tree) (k : ℕ) → leaves Z k ≡ false → inner_sum Z k ≡ 0
unfolding inner_sum leaves
inner_sum_out (leaf x) k h = refl
inner_sum_out (node X Y) k h = let o = or_neither (leaves X k) (leaves Y k) h in rw (o.0, o.1)

pub inner_sum_join :
    (A B : Tree) (i : ℕ) → leaves A i ≡ true → leaves B i ≡ false → inner_sum (join A B) i ≡ inner_sum A i + P (size B)
unfolding join
inner_sum_join A B i a b = elim (bool? (ltb (least A) (least B))) [
  | inl t ↦ rw t (inner_sum_left A B i a b)
  | inr f ↦ rw f (inner_sum_right B A i b a)
]

-- it is at most the number of pairs of the other leaves
pub inner_sum_most : (Z : Tree) (i : ℕ) → Distinct Z → inner_sum Z i ≤ P (size Z - 1)
inner_sum_most (leaf x) i d = rw inner_sum_leaf (omega arith)
inner_sum_most (node X Y) i d = elim (bool? (leaves X i)) [
  | inl a ↦
      rw (inner_sum_left X Y i a (d.2 i a))
      (most (size X) (size Y) _ (size_pos X) (size_node X Y) (inner_sum_most X i d.0))
  | inr a ↦ elim (bool? (leaves Y i)) [
    | inl b ↦
        let sizes = size_node X Y ∙ add_comm (size X) (size Y) in
        rw (inner_sum_right X Y i a b) (most (size Y) (size X) _ (size_pos Y) sizes (inner_sum_most Y i d.1))
    | inr b ↦ rw (inner_sum_out (node X Y) i (rw leaves_node (or_none _ _ a b))) (omega arith)
  ]
]
  where
    most : (x y k : ℕ) → 1 ≤ x → size (node X Y) ≡ x + y → k ≤ P (x - 1) → k + P y ≤ P (size (node X Y) - 1)
    most x y k l e h =
        let sum : size (node X Y) - 1 ≡ x - 1 + y = omega arith in
        rw sum (omega (arith, P_le (x - 1) y))

-- one branch more: what the subtree on the way to i sets aside, and all pairs of the branch
branch_count :
    (n : ℕ) (X Y : Tree) (i : ℕ) → Apart X Y → Distinct Y → Within n Y
    → pairs_below n (λ p q. branched X i p q || (leaves Y p && leaves Y q)) ≡ pairs_below n (branched X i) + P (size Y)
branch_count n X Y i r d h =
    pairs_or n (branched X i) (λ p q. leaves Y p && leaves Y q) (λ p q u. rw (r p (branched_in X i p q u).0))
    ∙ rw (pairs_both n (leaves Y), size_count n Y d h)

pub inner_sum_count :
    (n : ℕ) (X : Tree) (i : ℕ) → Distinct X → Within n X → leaves X i ≡ true
    → pairs_below n (branched X i) ≡ inner_sum X i
inner_sum_count n (leaf x) i r h a =
    rw inner_sum_leaf (pairs_ext n (branched (leaf x) i) (λ p q. false) nothing ∙ pairs_false n)
  where
    nothing : (p q : ℕ) → p < q → q < n → branched (leaf x) i p q ≡ false
    nothing p q l m = rw (branched_leaf, a) (and-false (leaves (leaf x) p && leaves (leaf x) q))
inner_sum_count n (node X Y) i r h a = elim (or_cases (leaves X i) (leaves Y i) (rw leaves_node at a)) [
  | inl t ↦
      pairs_ext n (branched (node X Y) i) (λ p q. branched X i p q || (leaves Y p && leaves Y q))
      (λ p q l m. branched_left X Y i p q t (r.2 i t))
      ∙ branch_count n X Y i r.2 r.1 (within_right n X Y h)
      ∙ rw (inner_sum_left X Y i t (r.2 i t), inner_sum_count n X i r.0 (within_left n X Y h) t)
  | inr t ↦
      let o = apart_sym X Y r.2 in
      pairs_ext n (branched (node X Y) i) (λ p q. branched Y i p q || (leaves X p && leaves X q))
      (λ p q l m. branched_right X Y i p q (o i t) t)
      ∙ branch_count n Y X i o r.0 (within_left n X Y h)
      ∙ rw (inner_sum_right X Y i (o i t) t, inner_sum_count n Y i r.1 (within_right n X Y h) t)
]
