-- The sums along the paths of a tree, where another subtree is put at a place. Inner sums see a branch by its size
-- alone: so the sum to a leaf of the subtree changes as the inner sum inside it does, and between leaves elsewhere
-- nothing changes where the two subtrees are of one size.
use mathlib.Core.Path.{◌≡◌, refl, ◌∙◌}
use mathlib.Core.Logic.{inl, inr}
use mathlib.Core.Bool.{true, false}
use Prim.Native.Nat.{ℕ, ◌+◌, ◌-◌}
use native.Mathlib.Nat.{add_comm}
use native.Mathlib.Omega.{arith}
use Rattle.base.proofs.Bools.{never, or_cases}
use Rattle.pair_counts.specs.Pairs.{P}
use Rattle.trees.specs.Trees.{Tree, node, leaves, size}
use Rattle.trees.proofs.Trees.{Apart, apart_sym, Distinct}
use Rattle.trees.proofs.BranchedPairs.{inner_sum, inner_sum_left, inner_sum_right}
use Rattle.trees.proofs.PathSums.{path_sum, path_sum_left, path_sum_right, path_sum_cross, path_sum_turn}
use Rattle.grafted_cells.proofs.Places.{Side, first, second, beside, Place, top, below, placed, elsewhere}
use Rattle.grafted_cells.proofs.Places.{distinct_beside, here_in, elsewhere_in, size_placed}

-- A node, seen from one of its two children: the leaves in that child, in its brother, and one in each.
pub inner_sum_beside :
    (s : Side) (Y X : Tree) (i : ℕ) → leaves X i ≡ true → leaves Y i ≡ false
    → inner_sum (beside s Y X) i ≡ inner_sum X i + P (size Y)
unfolding beside
inner_sum_beside first Y X i a b = inner_sum_left X Y i a b
inner_sum_beside second Y X i a b = inner_sum_right Y X i b a

pub inner_sum_brother :
    (s : Side) (Y X : Tree) (i : ℕ) → leaves X i ≡ false → leaves Y i ≡ true
    → inner_sum (beside s Y X) i ≡ inner_sum Y i + P (size X)
unfolding beside
inner_sum_brother first Y X i a b = inner_sum_right X Y i a b
inner_sum_brother second Y X i a b = inner_sum_left Y X i b a

pub path_sum_beside :
    (m : ℕ) (s : Side) (Y X : Tree) (i j : ℕ) → leaves Y i ≡ false → leaves X i ≡ true → leaves X j ≡ true
    → path_sum m (beside s Y X) i j ≡ path_sum m X i j
unfolding beside
path_sum_beside m first Y X i j o a b = path_sum_left m X Y i j a b
path_sum_beside m second Y X i j o a b = path_sum_right m Y X i j o a b

pub path_sum_brother :
    (m : ℕ) (s : Side) (Y X : Tree) (i j : ℕ) → leaves X i ≡ false → leaves Y i ≡ true → leaves Y j ≡ true
    → path_sum m (beside s Y X) i j ≡ path_sum m Y i j
unfolding beside
path_sum_brother m first Y X i j o a b = path_sum_right m X Y i j o a b
path_sum_brother m second Y X i j o a b = path_sum_left m Y X i j a b

pub path_sum_across :
    (m : ℕ) (s : Side) (Y X : Tree) (i j : ℕ) → Apart X Y → leaves X i ≡ true → leaves Y j ≡ true
    → path_sum m (beside s Y X) i j ≡ P (m - (size X + size Y)) + (inner_sum X i + inner_sum Y j)
unfolding beside
path_sum_across m first Y X i j r a b = path_sum_cross m X Y i j r a b
path_sum_across m second Y X i j r a b =
    rw (add_comm (size X) (size Y), add_comm (inner_sum X i) (inner_sum Y j))
    (path_sum_turn m (node Y X) i j ∙ path_sum_cross m Y X j i (apart_sym X Y r) b a)

-- between two leaves of the subtree at a place the sum is the subtree's own
pub path_sum_here :
    (m : ℕ) (o : Place) (Z : Tree) (i j : ℕ) → Distinct (placed o Z) → leaves Z i ≡ true → leaves Z j ≡ true
    → path_sum m (placed o Z) i j ≡ path_sum m Z i j
unfolding placed
path_sum_here m top Z i j d a b = refl
path_sum_here m (below s Y o) Z i j d a b =
    let w = distinct_beside s Y (placed o Z) d in
    let in_i = here_in o Z i a in
    path_sum_beside m s Y (placed o Z) i j (w.2 i in_i) in_i (here_in o Z j b)
    ∙ path_sum_here m o Z i j w.0 a b

-- Two subtrees, each put at the place.
module _ (Z Z' : Tree) where
  -- inner sums of a leaf of each differ by those in the subtrees
  inner_sum_here :
      (o : Place) (i i' : ℕ) → Distinct (placed o Z) → Distinct (placed o Z') → leaves Z i ≡ true → leaves Z' i' ≡ true
      → inner_sum (placed o Z') i' + inner_sum Z i ≡ inner_sum (placed o Z) i + inner_sum Z' i'
  unfolding placed
  inner_sum_here top i i' d d' a a' = add_comm (inner_sum Z' i') (inner_sum Z i)
  inner_sum_here (below s Y o) i i' d d' a a' =
      let w = distinct_beside s Y (placed o Z) d in
      let w' = distinct_beside s Y (placed o Z') d' in
      let in_i = here_in o Z i a in
      let in_i' = here_in o Z' i' a' in
      omega (
        arith,
        inner_sum_beside s Y (placed o Z) i in_i (w.2 i in_i),
        inner_sum_beside s Y (placed o Z') i' in_i' (w'.2 i' in_i'),
        inner_sum_here o i i' w.0 w'.0 a a',
      )

  -- and so do the sums from these leaves to one elsewhere, if as many leaves are left beside the subtrees
  pub path_sum_out :
      (m m' : ℕ) (o : Place) (i i' k : ℕ) → m' + size Z ≡ m + size Z' → Distinct (placed o Z) → Distinct (placed o Z')
      → leaves Z i ≡ true → leaves Z' i' ≡ true → elsewhere o k ≡ true
      → path_sum m' (placed o Z') i' k + inner_sum Z i ≡ path_sum m (placed o Z) i k + inner_sum Z' i'
  unfolding placed elsewhere
  path_sum_out m m' top i i' k e d d' a a' h = absurd (never h refl)
  path_sum_out m m' (below s Y o) i i' k e d d' a a' h =
      let w = distinct_beside s Y (placed o Z) d in
      let w' = distinct_beside s Y (placed o Z') d' in
      let in_i = here_in o Z i a in
      let in_i' = here_in o Z' i' a' in
      elim (or_cases (elsewhere o k) (leaves Y k) h) [
        | inl u ↦
            rw (
              path_sum_beside m s Y (placed o Z) i k (w.2 i in_i) in_i (elsewhere_in o Z k u),
              path_sum_beside m' s Y (placed o Z') i' k (w'.2 i' in_i') in_i' (elsewhere_in o Z' k u),
            )
            (path_sum_out m m' o i i' k e w.0 w'.0 a a' u)
        | inr u ↦
            let as_many : m' - (size (placed o Z') + size Y) ≡ m - (size (placed o Z) + size Y) =
            omega (arith, size_placed o Z, size_placed o Z') in
            rw (
              path_sum_across m s Y (placed o Z) i k w.2 in_i u,
              path_sum_across m' s Y (placed o Z') i' k w'.2 in_i' u,
              as_many,
            )
            (omega (arith, inner_sum_here o i i' w.0 w'.0 a a'))
      ]

-- Two subtrees of one size.
module _ (Z Z' : Tree) (same_size : size Z ≡ size Z') where
  sizes_placed : (o : Place) → size (placed o Z) ≡ size (placed o Z')
  sizes_placed o = omega (arith, size_placed o Z, size_placed o Z')

  inner_sum_elsewhere :
      (o : Place) (k : ℕ) → Distinct (placed o Z) → Distinct (placed o Z') → elsewhere o k ≡ true
      → inner_sum (placed o Z) k ≡ inner_sum (placed o Z') k
  unfolding placed elsewhere
  inner_sum_elsewhere top k d d' h = absurd (never h refl)
  inner_sum_elsewhere (below s Y o) k d d' h =
      let w = distinct_beside s Y (placed o Z) d in
      let w' = distinct_beside s Y (placed o Z') d' in
      elim (or_cases (elsewhere o k) (leaves Y k) h) [
        | inl u ↦
            let in_k = elsewhere_in o Z k u in
            let in_k' = elsewhere_in o Z' k u in
            rw (
              inner_sum_beside s Y (placed o Z) k in_k (w.2 k in_k),
              inner_sum_beside s Y (placed o Z') k in_k' (w'.2 k in_k'),
              inner_sum_elsewhere o k w.0 w'.0 u,
            )
        | inr u ↦
            rw (
              inner_sum_brother s Y (placed o Z) k (apart_sym (placed o Z) Y w.2 k u) u,
              inner_sum_brother s Y (placed o Z') k (apart_sym (placed o Z') Y w'.2 k u) u,
              sizes_placed o,
            )
      ]

  -- between two leaves elsewhere nothing changes
  across_elsewhere :
      (m : ℕ) (s : Side) (Y : Tree) (o : Place) (i j : ℕ) → Distinct (beside s Y (placed o Z))
      → Distinct (beside s Y (placed o Z')) → elsewhere o i ≡ true → leaves Y j ≡ true
      → path_sum m (beside s Y (placed o Z)) i j ≡ path_sum m (beside s Y (placed o Z')) i j
  across_elsewhere m s Y o i j d d' u v =
      let w = distinct_beside s Y (placed o Z) d in
      let w' = distinct_beside s Y (placed o Z') d' in
      rw (
        path_sum_across m s Y (placed o Z) i j w.2 (elsewhere_in o Z i u) v,
        path_sum_across m s Y (placed o Z') i j w'.2 (elsewhere_in o Z' i u) v,
        inner_sum_elsewhere o i w.0 w'.0 u,
        sizes_placed o,
      )

  pub path_sum_elsewhere :
      (m : ℕ) (o : Place) (i j : ℕ) → Distinct (placed o Z) → Distinct (placed o Z') → elsewhere o i ≡ true
      → elsewhere o j ≡ true → path_sum m (placed o Z) i j ≡ path_sum m (placed o Z') i j
  unfolding placed elsewhere
  path_sum_elsewhere m top i j d d' a b = absurd (never a refl)
  path_sum_elsewhere m (below s Y o) i j d d' a b =
      let X = placed o Z in
      let X' = placed o Z' in
      let w = distinct_beside s Y X d in
      let w' = distinct_beside s Y X' d' in
      elim (or_cases (elsewhere o i) (leaves Y i) a) [
        | inl u ↦ elim (or_cases (elsewhere o j) (leaves Y j) b) [
          | inl v ↦
              let in_i = elsewhere_in o Z i u in
              let in_i' = elsewhere_in o Z' i u in
              rw (
                path_sum_beside m s Y X i j (w.2 i in_i) in_i (elsewhere_in o Z j v),
                path_sum_beside m s Y X' i j (w'.2 i in_i') in_i' (elsewhere_in o Z' j v),
              )
              (path_sum_elsewhere m o i j w.0 w'.0 u v)
          | inr v ↦ across_elsewhere m s Y o i j d d' u v
        ]
        | inr u ↦ elim (or_cases (elsewhere o j) (leaves Y j) b) [
          | inl v ↦
              path_sum_turn m (beside s Y X) i j
              ∙ across_elsewhere m s Y o j i d d' v u
              ∙ path_sum_turn m (beside s Y X') j i
          | inr v ↦
              rw (
                path_sum_brother m s Y X i j (apart_sym X Y w.2 i u) u v,
                path_sum_brother m s Y X' i j (apart_sym X' Y w'.2 i u) u v,
              )
        ]
      ]
