-- Renumbering: where f gives no two leaves one number, each leaf stands under its new number as often as before, and
-- four leaves are paired as before.
use mathlib.Core.Path.{◌≡◌, refl, ap, sym, ◌∙◌}
use mathlib.Core.Logic.{inl, inr}
use mathlib.Core.Bool.{true}
use Prim.Native.Nat.{ℕ}
use borrow.Author.Tests.{eqb-true, eq-eqb}
use lib.Dec.{eqb}
use Rattle.base.specs.Numbers.{indicator}
use Rattle.base.proofs.Bools.{bool_iff, or_left, or_right, or_cases}
use Rattle.trees.specs.Trees.{Tree, leaf, node, LeafSet, leaves, occurrences}
use Rattle.trees.specs.Renumbering.{renumbered}
use Rattle.trees.specs.Quartets.{separates, paired}
use Rattle.trees.proofs.Trees.{leaves_node, leaf_has, leaf_eq, occurs_leaves}
use Rattle.trees.proofs.Quartets.{separates_at, paired_leaf, paired_node}

-- a leaf of the renumbered tree has the new number of a leaf
pub renumbered_of :
    (f : ℕ → ℕ) (S : Tree) (x : ℕ) → leaves (renumbered f S) x ≡ true → (k : ℕ) × (leaves S k ≡ true) × (f k ≡ x)
unfolding renumbered
renumbered_of f (leaf i) x h = (i, leaf_has i, sym (leaf_eq x (f i) h))
renumbered_of f (node A B) x h =
    elim (or_cases (leaves (renumbered f A) x) (leaves (renumbered f B) x) (rw leaves_node at h)) [
      | inl a ↦ (let r = renumbered_of f A x a in (r.0, rw leaves_node (or_left _ _ r.1), r.2))
      | inr b ↦ (let r = renumbered_of f B x b in (r.0, rw leaves_node (or_right (leaves A r.0) _ r.1), r.2))
    ]

-- only the numbers of the leaves matter
pub renumbered_ext :
    (f g : ℕ → ℕ) (S : Tree) → ((k : ℕ) → leaves S k ≡ true → f k ≡ g k) → renumbered f S ≡ renumbered g S
unfolding renumbered
renumbered_ext f g (leaf i) h = ap leaf (h i (leaf_has i))
renumbered_ext f g (node A B) h =
    rw (
      renumbered_ext f g A (λ k p. h k (rw leaves_node (or_left _ _ p))),
      renumbered_ext f g B (λ k p. h k (rw leaves_node (or_right (leaves A k) _ p))),
    )

own_numbers : (S : Tree) → renumbered (λ k. k) S ≡ S
unfolding renumbered
own_numbers (leaf i) = refl
own_numbers (node A B) = rw (own_numbers A, own_numbers B)

-- so what keeps them keeps the tree
pub renumbered_same : (f : ℕ → ℕ) (S : Tree) → ((k : ℕ) → leaves S k ≡ true → f k ≡ k) → renumbered f S ≡ S
renumbered_same f S h = renumbered_ext f (λ k. k) S h ∙ own_numbers S

-- f gives no two leaves of v one number, and S has leaves of v only
module _ (f : ℕ → ℕ) (v : LeafSet) (one : (j k : ℕ) → v j ≡ true → v k ≡ true → f j ≡ f k → j ≡ k) where
  abbrev pub Only : Tree → Type 0
  Only S = (k : ℕ) → leaves S k ≡ true → v k ≡ true

  only_left : (A B : Tree) → Only (node A B) → Only A
  only_left A B s k h = s k (rw leaves_node (or_left _ _ h))

  only_right : (A B : Tree) → Only (node A B) → Only B
  only_right A B s k h = s k (rw leaves_node (or_right (leaves A k) _ h))

  pub renumbered_occurrences :
      (S : Tree) → Only S → (k : ℕ) → v k ≡ true → occurrences (f k) (renumbered f S) ≡ occurrences k S
  unfolding renumbered occurrences
  renumbered_occurrences (leaf i) s k t =
      ap (λ b. indicator b 1)
      (bool_iff (eqb (f k) (f i)) (eqb k i)
      (λ h. eq-eqb k i (one k i t (s i (leaf_has i)) (eqb-true (f k) (f i) h)))
      (λ h. eq-eqb (f k) (f i) (ap f (eqb-true k i h))))
  renumbered_occurrences (node A B) s k t =
      rw (renumbered_occurrences A (only_left A B s) k t, renumbered_occurrences B (only_right A B s) k t)

  pub renumbered_leaves : (S : Tree) → Only S → (k : ℕ) → v k ≡ true → leaves (renumbered f S) (f k) ≡ leaves S k
  renumbered_leaves S s k t =
      rw (occurs_leaves (renumbered f S) (f k), occurs_leaves S k, renumbered_occurrences S s k t)

  -- pairings move with the numbers
  module _ (i j p q : ℕ) (vi : v i ≡ true) (vj : v j ≡ true) (vp : v p ≡ true) (vq : v q ≡ true) where
    same_edge :
        (S : Tree) → Only S
        → separates (leaves (renumbered f S)) (f i) (f j) (f p) (f q) ≡ separates (leaves S) i j p q
    same_edge S s =
        separates_at _ _ (renumbered_leaves S s i vi) (renumbered_leaves S s j vj) (renumbered_leaves S s p vp)
        (renumbered_leaves S s q vq)

    pub renumbered_paired : (S : Tree) → Only S → paired (renumbered f S) (f i) (f j) (f p) (f q) ≡ paired S i j p q
    unfolding renumbered
    renumbered_paired (leaf x) s = rw (paired_leaf (f x), paired_leaf x) (same_edge (leaf x) s)
    renumbered_paired (node A B) s =
        rw (
          paired_node (renumbered f A) (renumbered f B) (f i) (f j) (f p) (f q),
          paired_node A B i j p q,
          renumbered_paired A (only_left A B s),
          renumbered_paired B (only_right A B s),
          same_edge (node A B) s,
        )
