-- Places in a tree: a way from the top down, at each node into one of its two children. A subtree stands at a place,
-- and another can be put there in its stead; the leaves elsewhere stay.
use mathlib.Core.Path.{◌≡◌, refl, sym, ◌∙◌}
use mathlib.Core.Logic.{inl, inr}
use mathlib.Core.Bool.{true, false, ◌||◌, or_comm, or-false, or_assoc}
use Prim.Native.Nat.{ℕ, ◌+◌}
use native.Mathlib.Nat.{add_comm}
use native.Mathlib.Omega.{arith}
use Rattle.base.proofs.Bools.{never, is_false, or_left, or_right, or_cases}
use Rattle.trees.specs.Trees.{Tree, node, LeafSet, leaves, size}
use Rattle.trees.proofs.Trees.{leaves_node, size_node, Apart, apart_sym, Distinct}

-- which of the two children of a node
pub data Side : Type 0 where
  first : Side
  second : Side

-- X and its brother Y under one node; the side is that of X
unfoldable pub beside : Side → Tree → Tree → Tree
beside first Y X = node X Y
beside second Y X = node Y X

-- the top, or a place below the child on one side of a node, whose other child is given
pub data Place : Type 0 where
  top : Place
  below : Side → Tree → Place → Place

-- the tree with Z at a place
unfoldable pub placed : Place → Tree → Tree
placed top Z = Z
placed (below s Y o) Z = beside s Y (placed o Z)

-- the leaves that stand elsewhere
unfoldable pub elsewhere : Place → LeafSet
elsewhere top k = false
elsewhere (below s Y o) k = elsewhere o k || leaves Y k

-- how many these are
unfoldable pub many_elsewhere : Place → ℕ
many_elsewhere top = 0
many_elsewhere (below s Y o) = many_elsewhere o + size Y

-- the two children of a node, seen from the one and from the other
pub leaves_beside : (s : Side) (Y X : Tree) (k : ℕ) → leaves (beside s Y X) k ≡ (leaves X k || leaves Y k)
unfolding beside
leaves_beside first Y X k = leaves_node k X Y
leaves_beside second Y X k = leaves_node k Y X ∙ or_comm (leaves Y k) (leaves X k)

pub own_in : (s : Side) (Y X : Tree) (k : ℕ) → leaves X k ≡ true → leaves (beside s Y X) k ≡ true
own_in s Y X k h = leaves_beside s Y X k ∙ or_left _ _ h

pub brother_in : (s : Side) (Y X : Tree) (k : ℕ) → leaves Y k ≡ true → leaves (beside s Y X) k ≡ true
brother_in s Y X k h = leaves_beside s Y X k ∙ or_right (leaves X k) _ h

pub size_beside : (s : Side) (Y X : Tree) → size (beside s Y X) ≡ size X + size Y
unfolding beside
size_beside first Y X = size_node X Y
size_beside second Y X = size_node Y X ∙ add_comm (size Y) (size X)

pub distinct_beside : (s : Side) (Y X : Tree) → Distinct (beside s Y X) → Distinct X × Distinct Y × Apart X Y
unfolding beside
distinct_beside first Y X d = d
distinct_beside second Y X d = (d.1, d.0, apart_sym Y X d.2)

-- The leaves of a tree are those of the subtree at a place and those elsewhere.
leaves_placed : (o : Place) (Z : Tree) (k : ℕ) → leaves (placed o Z) k ≡ (leaves Z k || elsewhere o k)
unfolding placed elsewhere
leaves_placed top Z k = sym (or-false (leaves Z k))
leaves_placed (below s Y o) Z k =
    leaves_beside s Y (placed o Z) k
    ∙ rw (leaves_placed o Z k) (or_assoc (leaves Z k) (elsewhere o k) (leaves Y k))

pub here_in : (o : Place) (Z : Tree) (k : ℕ) → leaves Z k ≡ true → leaves (placed o Z) k ≡ true
here_in o Z k h = leaves_placed o Z k ∙ or_left _ _ h

pub elsewhere_in : (o : Place) (Z : Tree) (k : ℕ) → elsewhere o k ≡ true → leaves (placed o Z) k ≡ true
elsewhere_in o Z k h = leaves_placed o Z k ∙ or_right (leaves Z k) _ h

pub elsewhere_is :
    (o : Place) (Z : Tree) (k : ℕ) → leaves (placed o Z) k ≡ true → leaves Z k ≡ false → elsewhere o k ≡ true
elsewhere_is o Z k h out = rw out at (sym (leaves_placed o Z k) ∙ h)

pub size_placed : (o : Place) (Z : Tree) → size (placed o Z) ≡ size Z + many_elsewhere o
unfolding placed many_elsewhere
size_placed top Z = omega arith
size_placed (below s Y o) Z = omega (arith, size_beside s Y (placed o Z), size_placed o Z)

pub distinct_placed : (o : Place) (Z : Tree) → Distinct (placed o Z) → Distinct Z
unfolding placed
distinct_placed top Z d = d
distinct_placed (below s Y o) Z d = distinct_placed o Z (distinct_beside s Y (placed o Z) d).0

-- no leaf is here and elsewhere
pub elsewhere_out :
    (o : Place) (Z : Tree) (k : ℕ) → Distinct (placed o Z) → elsewhere o k ≡ true → leaves Z k ≡ false
unfolding placed elsewhere
elsewhere_out top Z k d h = absurd (never h refl)
elsewhere_out (below s Y o) Z k d h =
    let w = distinct_beside s Y (placed o Z) d in
    elim (or_cases (elsewhere o k) (leaves Y k) h) [
      | inl u ↦ elsewhere_out o Z k w.0 u
      | inr u ↦ is_false (leaves Z k) (λ t. never u (w.2 k (here_in o Z k t)))
    ]
