-- The classes of the leaves at a row: class 1 has the leaves of the first child, class 2 those of the second, class 0
-- the leaves beyond both. So the gaps of a block of two classes are those between these sets of leaves.
use mathlib.Core.Path.{◌≡◌, refl, ◌∙◌}
use mathlib.Core.Bool.{Bool, true, false, cond, not, ◌||◌, or_comm}
use mathlib.Core.List.{List}
use Prim.Native.Nat.{ℕ, ◌<◌}
use lib.Dec.{eqb}
use lib.ListN.{get_or}
use Rattle.base.proofs.Bools.{never}
use Rattle.trees.specs.Trees.{Tree, leaves}
use Rattle.trees.proofs.Trees.{Apart}
use Rattle.grafted_cells.specs.inner.Moves.{beyond, block_gap}
use Rattle.grafted_cells.proofs.Totals.{block_gap_ext}
use Rattle.block_gaps.specs.inner.Blocks.{of_class}
use Rattle.edge_weights.specs.inner.Classes.{class_of, Classified}
use Rattle.edge_weights.specs.inner.Rows.{Held}

pub beyond_turn : (A B : Tree) (k : ℕ) → beyond A B k ≡ beyond B A k
unfolding beyond
beyond_turn A B k = rw (or_comm (leaves A k) (leaves B k))

-- the class of a leaf, by the two tests of its label
abbrev class_by : Bool → Bool → ℕ
class_by x y = cond x 1 (cond y 2 0)

is_first : (x y : Bool) → eqb (class_by x y) 1 ≡ x
is_first true y = refl
is_first false true = refl
is_first false false = refl

is_second : (x y : Bool) → (x ≡ true → y ≡ false) → eqb (class_by x y) 2 ≡ y
is_second true true h = absurd (never refl (h refl))
is_second true false h = refl
is_second false true h = refl
is_second false false h = refl

is_neither : (x y : Bool) → eqb (class_by x y) 0 ≡ not (x || y)
is_neither true y = refl
is_neither false true = refl
is_neither false false = refl

-- The labels a and b, under which the arrays hold the subtrees A and B.
module _ {n s : ℕ} {label m sizes : List ℕ} {a b : ℕ} {A B : Tree} (left : Held n s label m sizes a A)
    (right : Held n s label m sizes b B) (apart : Apart A B) (classes : List ℕ)
    (classified : Classified n label a b classes) where
  class_is : (j : ℕ) → j < n → get_or classes j 0 ≡ class_by (leaves A j) (leaves B j)
  unfolding class_of
  class_is j lj = rw (classified j lj, left.labelled j lj, right.labelled j lj)

  pub class_first : (j : ℕ) → j < n → of_class classes 1 j ≡ leaves A j
  class_first j lj = rw (class_is j lj) (is_first (leaves A j) (leaves B j))

  pub class_second : (j : ℕ) → j < n → of_class classes 2 j ≡ leaves B j
  class_second j lj = rw (class_is j lj) (is_second (leaves A j) (leaves B j) (apart j))

  pub class_beyond : (j : ℕ) → j < n → of_class classes 0 j ≡ beyond A B j
  unfolding beyond
  class_beyond j lj = rw (class_is j lj) (is_neither (leaves A j) (leaves B j))

  -- the blocks between the children, and between either child and the leaves beyond
  module _ (z : ℕ) (t u : List ℕ) where
    pub block_inside :
        block_gap n s z t u (of_class classes 1) (of_class classes 2) ≡ block_gap n s z t u (leaves A) (leaves B)
    block_inside = block_gap_ext n s z t u _ _ _ _ class_first class_second

    pub block_second :
        block_gap n s z t u (of_class classes 2) (of_class classes 0) ≡ block_gap n s z t u (leaves B) (beyond A B)
    block_second = block_gap_ext n s z t u _ _ _ _ class_second class_beyond

    pub block_first :
        block_gap n s z t u (of_class classes 1) (of_class classes 0) ≡ block_gap n s z t u (leaves A) (beyond B A)
    block_first =
        block_gap_ext n s z t u _ _ _ _ class_first (λ j lj. class_beyond j lj ∙ beyond_turn A B j)
