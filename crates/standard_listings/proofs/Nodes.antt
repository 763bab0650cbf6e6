-- The nodes of a listing that keeps the rules, in standard order: the child with the smaller least leaf comes first.
use mathlib.Core.Path.{◌≡◌, refl, ap, ◌∙◌}
use mathlib.Core.Logic.{inl, inr}
use mathlib.Core.List.{List}
use Prim.Native.Nat.{ℕ, ◌+◌, ◌-◌, ◌*◌, ◌<◌}
use native.Mathlib.Omega.{arith}
use borrow.Author.Tests.{ltb-false}
use lib.Dec.{ltb}
use Rattle.base.proofs.Bools.{bool?}
use Rattle.trees.specs.Trees.{Tree, leaf, node, least, join, ordered}
use Rattle.trees.proofs.SubtreesByRow.{subtree_at_leaf, child_before, subtree_at_row}
use Rattle.listings.specs.inner.Children.{row_first, row_second}
use Rattle.standard_listings.specs.inner.Standardising.{part, pick, standard_first, standard_second, AtNode}

-- the least leaf of two joined subtrees
least_of_two : (A B : Tree) → least (join A B) ≡ pick (least A) (least B) (least A) (least B)
unfolding join least pick
least_of_two A B = elim (bool? (ltb (least A) (least B))) [
  | inl t ↦ rw (t, t)
  | inr f ↦ rw f (elim (bool? (ltb (least B) (least A))) [
    | inl t ↦ rw t
    | inr g ↦ rw g (omega (arith, ltb-false (least A) (least B) f, ltb-false (least B) (least A) g))
  ])
]

-- what holds of both holds of the one that is picked
pick_either : (P : ℕ → Type 0) (x y a b : ℕ) → P a → P b → P (pick x y a b)
unfolding pick
pick_either P x y a b p q = elim (bool? (ltb x y)) [ inl t ↦ rw t p | inr f ↦ rw f q ]

pick_of : (f : ℕ → ℕ) (x y a b : ℕ) → pick x y (f a) (f b) ≡ f (pick x y a b)
unfolding pick
pick_of f x y a b = elim (bool? (ltb x y)) [ inl t ↦ rw t | inr g ↦ rw g ]

pub part_leaf : (n : ℕ) (l : List ℕ) (v : ℕ) → v < n → part n l v ≡ leaf v
unfolding ordered
part_leaf n l v h = rw (subtree_at_leaf n l v h)

-- A node of a listing that keeps the rules.
module _ {n : ℕ} {l : List ℕ} {v : ℕ} (w : AtNode n l v) where
  pub left_below : row_first n l v < v
  left_below = omega (arith, w, child_before n l w.count w.keeps (2 * (v - n)) (omega (arith, w)))

  pub right_below : row_second n l v < v
  right_below = omega (arith, w, child_before n l w.count w.keeps (2 * (v - n) + 1) (omega (arith, w)))

  part_join : part n l v ≡ join (part n l (row_first n l v)) (part n l (row_second n l v))
  part_join =
      let row = subtree_at_row n l w.count w.keeps (v - n) (omega (arith, w)) in
      ap ordered (rw here at row) ∙ (unfold ordered in refl)
    where
      here : n + (v - n) ≡ v
      here = omega (arith, w)

  pub part_node : part n l v ≡ node (part n l (standard_first n l v)) (part n l (standard_second n l v))
  unfolding join pick
  part_node =
      part_join ∙ elim (bool? (ltb (least (part n l (row_first n l v))) (least (part n l (row_second n l v))))) [
        | inl t ↦ rw t
        | inr f ↦ rw f
      ]

  pub first_below : standard_first n l v < v
  first_below = pick_either (λ c. c < v) _ _ _ _ left_below right_below

  pub second_below : standard_second n l v < v
  second_below = pick_either (λ c. c < v) _ _ _ _ right_below left_below

  -- the least leaf under a node is that under its first child
  pub least_node : least (part n l v) ≡ least (part n l (standard_first n l v))
  least_node = ap least part_join ∙ least_of_two _ _ ∙ pick_of (λ c. least (part n l c)) _ _ _ _
