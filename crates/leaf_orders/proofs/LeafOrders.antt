-- Leaves in order: where those of a subtree stand, and what branches off above each.
use mathlib.Core.Path.{◌≡◌, sym, ◌∙◌}
use mathlib.Core.Logic.{inl, inr}
use mathlib.Core.Bool.{true}
use Prim.Native.Nat.{ℕ, ◌+◌, ◌≤◌, ◌<◌}
use native.Mathlib.Omega.{arith}
use native.Mathlib.Decide.{dec_lt}
use Rattle.base.proofs.Bools.{or_left, or_right, or_cases}
use Rattle.pair_counts.specs.Pairs.{P}
use Rattle.trees.specs.Trees.{Tree, leaf, node, leaves, size}
use Rattle.trees.proofs.Trees.{leaves_node, leaf_has, leaf_eq, size_leaf, size_node, apart_sym, Distinct, Within}
use Rattle.trees.proofs.Trees.{within_left, within_right}
use Rattle.trees.proofs.BranchedPairs.{inner_sum, inner_sum_leaf, inner_sum_left, inner_sum_right}
use Rattle.leaf_orders.specs.inner.Orders.{depth, PlacedAt, LaidOut}

module _ (n : ℕ) (place above before : ℕ → ℕ) where
  -- the leaves of a subtree stand at its places
  pub place_in :
      (Z : Tree) (p u w : ℕ) → LaidOut n place above before Z p u w → (k : ℕ) → leaves Z k ≡ true
      → (p ≤ place k) × (place k < p + size Z)
  place_in (leaf x) p u w h k t = rw (leaf_eq k x t, size_leaf x) (omega (arith, h.0), omega (arith, h.0))
  place_in (node A B) p u w h k t = rw size_node (elim (or_cases (leaves A k) (leaves B k) (rw leaves_node at t)) [
    | inl a ↦
        let r = place_in A p (u + P (size B)) w h.0 k a in
        (r.0, omega (arith, r.1))
    | inr b ↦
        let r = place_in B (p + size A) (u + P (size A)) (depth n A B u) h.1 k b in
        (omega (arith, r.0), omega (arith, r.1))
  ])

  -- and at each of its places stands one
  pub leaf_at :
      (Z : Tree) (p u w : ℕ) → LaidOut n place above before Z p u w → (t : ℕ) → p ≤ t → t < p + size Z
      → (k : ℕ) × (leaves Z k ≡ true) × (place k ≡ t)
  leaf_at (leaf x) p u w h t lo hi = (x, leaf_has x, omega (arith, h.0, size_leaf x))
  leaf_at (node A B) p u w h t lo hi = elim (dec_lt t (p + size A)) [
    | yes l ↦
        let r = leaf_at A p (u + P (size B)) w h.0 t lo l in
        (r.0, rw leaves_node (or_left _ _ r.1), r.2)
    | no g ↦
        let r =
        leaf_at B (p + size A) (u + P (size A)) (depth n A B u) h.1 t (omega arith)
        (omega (arith, size_node A B)) in
        (r.0, rw leaves_node (or_right (leaves A r.0) _ r.1), r.2)
  ]

  -- two leaves stand at two places
  pub place_once :
      (Z : Tree) (p u w : ℕ) → LaidOut n place above before Z p u w → (j k : ℕ) → leaves Z j ≡ true → leaves Z k ≡ true
      → place j ≡ place k → j ≡ k
  place_once (leaf x) p u w h j k tj tk e = leaf_eq j x tj ∙ sym (leaf_eq k x tk)
  place_once (node A B) p u w h j k tj tk e =
      elim (or_cases (leaves A j) (leaves B j) (rw leaves_node at tj)) [
        | inl aj ↦ elim (or_cases (leaves A k) (leaves B k) (rw leaves_node at tk)) [
          | inl ak ↦ place_once A p (u + P (size B)) w h.0 j k aj ak e
          | inr bk ↦ absurd (omega (arith, in_a j aj, in_b k bk))
        ]
        | inr bj ↦ elim (or_cases (leaves A k) (leaves B k) (rw leaves_node at tk)) [
          | inl ak ↦ absurd (omega (arith, in_a k ak, in_b j bj))
          | inr bk ↦ place_once B (p + size A) (u + P (size A)) (depth n A B u) h.1 j k bj bk e
        ]
      ]
    where
      in_a : (i : ℕ) → leaves A i ≡ true → place i < p + size A
      in_a i t = (place_in A p (u + P (size B)) w h.0 i t).1

      in_b : (i : ℕ) → leaves B i ≡ true → p + size A ≤ place i
      in_b i t = (place_in B (p + size A) (u + P (size A)) (depth n A B u) h.1 i t).0

  -- what branches off above a leaf
  pub above_in :
      (Z : Tree) (p u w : ℕ) → LaidOut n place above before Z p u w → Distinct Z → (k : ℕ) → leaves Z k ≡ true
      → above k ≡ u + inner_sum Z k
  above_in (leaf x) p u w h d k t = rw (leaf_eq k x t, inner_sum_leaf x x) (omega (arith, h.1))
  above_in (node A B) p u w h d k t = elim (or_cases (leaves A k) (leaves B k) (rw leaves_node at t)) [
    | inl a ↦
        rw (inner_sum_left A B k a (d.2 k a))
        (omega (arith, above_in A p (u + P (size B)) w h.0 d.0 k a))
    | inr b ↦
        rw (inner_sum_right A B k (apart_sym A B d.2 k b) b)
        (omega (arith, above_in B (p + size A) (u + P (size A)) (depth n A B u) h.1 d.1 k b))
  ]

-- the places of the leaves, and what stands beside them, may be given in another way
pub laid_same :
    (n : ℕ) (place above before place' above' before' : ℕ → ℕ)
    → ((k : ℕ) → k < n → PlacedAt place' above' before' k (place k) (above k) (before k)) → (Z : Tree) (p u w : ℕ)
    → Within n Z → LaidOut n place above before Z p u w → LaidOut n place' above' before' Z p u w
laid_same n place above before place' above' before' e (leaf x) p u w s h =
    let same = e x (s x (leaf_has x)) in (same.0 ∙ h.0, same.1 ∙ h.1, same.2 ∙ h.2)
laid_same n place above before place' above' before' e (node A B) p u w s h = (
  laid_same n place above before place' above' before' e A p (u + P (size B)) w (within_left n A B s) h.0,
  laid_same n place above before place' above' before' e B (p + size A) (u + P (size A)) (depth n A B u)
      (within_right n A B s) h.1,
)
