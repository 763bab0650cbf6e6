-- A tree even from a rough table (02, request 4): merges by the smallest mean size of gap, and what our own rebuild
-- replies. As in Merging.antt, n is the number of leaves, s the table's scale, and cell (x, y) is c x y.
use Rattle.std.specs.Prelude.{◌≡◌, ◌⊎◌, Bool, false, not, ◌&&◌, List, [], ◌∷◌, ℕ, zero, suc, ◌-◌, ◌*◌, ◌≤◌, ◌<◌, ltb}
use Rattle.std.specs.Prelude.{eqb}
use Rattle.std.proofs.Math.Option.{Option, none, some}
use Rattle.base.specs.Numbers.{indicator, sum_below, distance, Fraction, less}
use Rattle.base.specs.Lists.{in_rows, all_in, find}
use Rattle.refusals.specs.Refusals.{accepted, refused}
use Rattle.tree_records.specs.declared.Origin.{Origin}
use Rattle.tree_records.specs.declared.Origin.TheVariants.{Rebuilt, Guessed}
use Rattle.trees.specs.Trees.{Tree, leaves, size, least}
use Rattle.trees.specs.Tables.{cell}
use Rattle.trees.specs.Gaps.{total_gap}
use Rattle.merging.specs.Merging.{State, start, expected, step}
use Rattle.merging.specs.MergeLists.{Pair, final_tree, final_listing}
use Rattle.merging.specs.Rebuilds.{rebuilt}

-- the sizes of the gaps of the cells of A and B from the values expected of them, added up
unfoldable pub gap_sum : ℕ → ℕ → (ℕ → ℕ → ℕ) → State → Tree → Tree → ℕ
gap_sum n s c S A B =
    sum_below n (λ x. sum_below n (λ y.
    indicator (leaves A x && leaves B y) (distance (c x y) (expected n s S A B x y))))

-- the mean size of gap of the cells of two subtrees, as a fraction: that sum, and the number of their cells. A pair
-- names the subtrees by two leaves of theirs.
unfoldable pub mean : ℕ → ℕ → (ℕ → ℕ → ℕ) → State → Pair → Fraction
mean n s c S p = let A = S.tree p.0 in let B = S.tree p.1 in (gap_sum n s c S A B, size A * size B)

-- a pair of the least leaves of two different subtrees, the smaller first
unfoldable pub two_subtrees : State → Pair → Bool
two_subtrees S p =
    ltb p.0 p.1 && (eqb (least (S.tree p.0)) p.0 && eqb (least (S.tree p.1)) p.1)

-- no two subtrees have a smaller mean
unfoldable pub smallest : ℕ → ℕ → (ℕ → ℕ → ℕ) → State → Pair → Bool
smallest n s c S p = all_in (λ q. not (two_subtrees S q && less (mean n s c S q) (mean n s c S p))) (in_rows n)

-- the two subtrees to merge, those of the smallest mean; ties go to the first pair in row order
unfoldable pub nearest : ℕ → ℕ → List ℕ → State → Option Pair
nearest n s t S = find (λ p. two_subtrees S p && smallest n s (cell n t) S p) (in_rows n)

-- The same in 02's words: "Each step merges the two subtrees whose cells have the smallest mean size of gap from the
-- expected value .. Ties go to the pair with the smallest least leaf, then the smaller other least leaf." Here x and y
-- are leaves of any two different subtrees.
pub record IsNearest (n s : ℕ) (c : ℕ → ℕ → ℕ) (S : State) (p : Pair) : Type 0 where
  -- p names two different subtrees by their least leaves, the smaller first
  pub rising : p.0 < p.1
  pub below : p.1 < n
  pub different : leaves (S.tree p.0) p.1 ≡ false
  pub least_first : least (S.tree p.0) ≡ p.0
  pub least_other : least (S.tree p.1) ≡ p.1
  -- no two subtrees have a smaller mean
  pub smallest_mean :
      (x y : ℕ) → x < n → y < n → leaves (S.tree x) y ≡ false → less (mean n s c S (x, y)) (mean n s c S p) ≡ false
  -- two whose mean is not larger have a greater smallest least leaf, or the same and no smaller other least leaf
  pub ties :
      (x y : ℕ) → x < n → y < n → leaves (S.tree x) y ≡ false → least (S.tree x) < least (S.tree y)
      → less (mean n s c S p) (mean n s c S (x, y)) ≡ false
      → (p.0 < least (S.tree x)) ⊎ ((p.0 ≡ least (S.tree x)) × (p.1 ≤ least (S.tree y)))

-- merges by the smallest mean, k of them
unfoldable pub by_mean : ℕ → ℕ → ℕ → List ℕ → State → List Pair
by_mean zero n s t S = []
by_mean (suc k) n s t S = elim (nearest n s t S) [ none ↦ [] | some p ↦ p ∷ by_mean k n s t (step S p.0 p.1) ]

-- the guess starts again from single leaves, and merges until one subtree is left
unfoldable pub guess : ℕ → ℕ → List ℕ → List Pair
guess n s t = by_mean (n - 1) n s t start

-- what our own rebuild replies: a tree's standard listing, its origin, and its total gap to the table
pub record Reply : Type 0 where
  pub listing : List ℕ
  pub origin : Origin
  pub total : ℕ

-- a tree that has the table
abbrev pub exact : List ℕ → Reply
exact l = record { listing = l; origin = Rebuilt; total = 0 }

-- the guess: "a tree of origin guessed and the total gap"
unfoldable pub guessed : ℕ → ℕ → List ℕ → Reply
guessed n s t = record {
  listing = final_listing n (guess n s t);
  origin = Guessed;
  total = total_gap n s t (final_tree (guess n s t));
}

-- "A table that has a tree gets the tree it always got"; where rebuilding said 6, it now returns the guess
unfoldable pub replied : ℕ → ℕ → List ℕ → Reply
replied n s t = elim (rebuilt n s t) [ accepted l ↦ exact l | refused r ↦ guessed n s t ]
