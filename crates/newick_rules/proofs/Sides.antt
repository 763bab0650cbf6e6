-- The sides that a text names, as subtrees of what it draws: each side is the leaf set of a subtree, and in a binary
-- drawing each subtree's leaf set is a side.
use mathlib.Core.Path.{◌≡◌, refl, ◌∙◌}
use mathlib.Core.Logic.{◌⊎◌, inl, inr}
use mathlib.Core.Bool.{Bool, true}
use mathlib.Core.List.{List}
use Prim.Native.Nat.{ℕ, ◌≤◌}
use native.Mathlib.Omega.{arith}
use borrow.Author.Tests.{eqb-true}
use lib.Dec.{eqb}
use Rattle.base.specs.Lists.{any_in, all_in}
use Rattle.base.proofs.Bools.{or_left, or_right, and_both, and_is}
use Rattle.base.proofs.Lists.{every_append, any_append}
use Rattle.trees.specs.Trees.{Tree, LeafSet, leaves}
use Rattle.trees.proofs.Subtrees.{In, in_whole}
use Rattle.newick_rules.specs.Drawings.{Drawing, name, bracket, Parts, one, more}
use Rattle.newick_rules.specs.Importing.{ways, binary, binary_parts, subtree, subtree_of_parts}
use Rattle.newick_rules.specs.Meanings.{named_in, sides, sides_of_parts}

-- a bracket has some part
pub ways_positive : (p : Parts) → 1 ≤ ways p
unfolding ways
ways_positive (one d) = omega arith
ways_positive (more p d) = omega arith

module _ (known : List (List ℕ)) where
  -- X is a subtree of one of the parts
  abbrev pub InParts : Tree → Parts → Type 0
  InParts X (one d) = In X (subtree known d)
  InParts X (more p d) = InParts X p ⊎ In X (subtree known d)

  pub parts_in : (p : Parts) (X : Tree) → InParts X p → In X (subtree_of_parts known p)
  unfolding subtree
  parts_in (one d) X i = i
  parts_in (more p d) X i = elim i [ inl u ↦ inr (inl (parts_in p X u)) | inr v ↦ inr (inr v) ]

  -- a subtree of at most two parts is the whole, or a subtree of one part
  pub few_parts :
      (p : Parts) → ways p ≤ 2 → (X : Tree) → In X (subtree_of_parts known p)
      → (X ≡ subtree_of_parts known p) ⊎ InParts X p
  unfolding ways subtree
  few_parts (one d) w X i = inr i
  few_parts (more (one d) e) w X i = i
  few_parts (more (more p c) d) w X i = absurd (omega (arith, ways_positive p))

  module _ (f : LeafSet → Bool) where
    mutual
      unfolding sides named_in subtree all_in

      -- what holds of every subtree holds of every side
      every_side :
          (d : Drawing) → ((X : Tree) → In X (subtree known d) → f (leaves X) ≡ true) → all_in f (sides known d) ≡ true
      every_side (name x) h = and_is _ _ (h (subtree known (name x)) (in_whole (subtree known (name x)))) refl
      every_side (bracket p) h =
          and_is _ _ (h (subtree known (bracket p)) (in_whole (subtree known (bracket p))))
          (every_part p (λ X i. h X (parts_in p X i)))

      pub every_part :
          (p : Parts) → ((X : Tree) → InParts X p → f (leaves X) ≡ true) → all_in f (sides_of_parts known p) ≡ true
      every_part (one d) h = every_side d h
      every_part (more p d) h =
          every_append f (sides_of_parts known p) (sides known d) (every_part p (λ X i. h X (inl i)))
          (every_side d (λ X i. h X (inr i)))

    mutual
      unfolding sides named_in subtree binary any_in

      -- what holds of some subtree of a binary drawing holds of some side
      any_side :
          (d : Drawing) → binary d ≡ true → (X : Tree) → In X (subtree known d) → f (leaves X) ≡ true
          → any_in f (sides known d) ≡ true
      any_side (name x) b X i h = or_left _ _ (rw i at h)
      any_side (bracket p) b X i h =
          let q = and_both (eqb (ways p) 2) (binary_parts p) b in
          elim (few_parts p (omega (arith, eqb-true (ways p) 2 q.0)) X i) [
            | inl e ↦ or_left (f (named_in known (bracket p))) _ (rw e at h)
            | inr u ↦ or_right (f (named_in known (bracket p))) _ (any_part p q.1 X u h)
          ]

      pub any_part :
          (p : Parts) → binary_parts p ≡ true → (X : Tree) → InParts X p → f (leaves X) ≡ true
          → any_in f (sides_of_parts known p) ≡ true
      any_part (one d) b X i h = any_side d b X i h
      any_part (more p d) b X i h =
          let q = and_both (binary_parts p) (binary d) b in
          any_append f (sides_of_parts known p) (sides known d)
          ∙ (elim i [
            | inl u ↦ or_left _ _ (any_part p q.0 X u h)
            | inr v ↦ or_right (any_in f (sides_of_parts known p)) _ (any_side d q.1 X v h)
          ])
