-- Rows without a wrong cell: a count of 0 says that each leaf of a subtree has the cell expected.
use mathlib.Core.Path.{◌≡◌, sym, ◌∙◌}
use mathlib.Core.Logic.{◌↔◌}
use mathlib.Core.Bool.{Bool, true}
use mathlib.Core.List.{List}
use Prim.Native.Nat.{ℕ, ◌+◌, ◌-◌, ◌*◌, ◌≤◌}
use native.Mathlib.Omega.{arith}
use lib.ListN.{get_or}
use Rattle.trees.specs.Tables.{cell}
use Rattle.trees.proofs.Tables.{halves_equal}
use Rattle.merging.proofs.Runs.{EqualHalves}
use Rattle.state_arrays.specs.inner.Fits.{largest_sum, BlockFits, SubtreesFit, TwoLabels}

-- the cells of two subtrees, read by the rows of the other one
fits_turn :
    (n : ℕ) (t label m : List ℕ) (a b : ℕ) → EqualHalves n (cell n t) → (e : ℕ)
    → BlockFits n t label m a b e → BlockFits n t label m b a e
fits_turn n t label m a b halves e h x y lx ly p q = halves x y lx ly ∙ h y x ly lx q p ∙ omega arith

-- Two subtrees that are to be tested: the value expected, and what the test of their block says.
module _ {n : ℕ} {t label m sizes p : List ℕ} {a b : ℕ} (w : TwoLabels n t label m sizes p a b) where
  -- the pairs of leaves in neither
  abbrev e : ℕ
  e = get_or p (n - (get_or sizes a 0 + get_or sizes b 0)) 0

  pub both_fit : get_or sizes a 0 + get_or sizes b 0 ≤ n
  both_fit = w.fair.room a b w.first w.second w.differ w.own_first w.own_second

  pub expected_small : (e ≤ largest_sum) × ((e + get_or m a 0) + get_or m b 0 ≤ 3 * largest_sum)
  expected_small =
      let pairs = w.fair.small_counts (n - (get_or sizes a 0 + get_or sizes b 0)) (omega arith) in
      let small = w.fair.small in
      (pairs, omega (arith, pairs, small a w.first, small b w.second))

  pub first_off : (cell n t a b ≡ (e + get_or m a 0) + get_or m b 0 → ⊥) → SubtreesFit n t label m sizes p a b → ⊥
  first_off h meets = h (meets a b w.first w.second w.own_first w.own_second)

  pub across : {r : Bool} → (r ≡ true) ↔ BlockFits n t label m b a e → (r ≡ true) ↔ SubtreesFit n t label m sizes p a b
  across h = (λ r. fits_turn n t label m b a halves e (h.0 r), λ f. h.1 (fits_turn n t label m a b halves e f))
    where
      halves : EqualHalves n (cell n t)
      halves = halves_equal w.fair.is_table

-- in the other order
pub two_turned :
    {n :
    ℕ} {t label m sizes p : List ℕ} {a b : ℕ} → TwoLabels n t label m sizes p a b
    → TwoLabels n t label m sizes p b a
two_turned w = record {
  fair = w.fair;
  first = w.second;
  second = w.first;
  differ = λ e. w.differ (sym e);
  own_first = w.own_second;
  own_second = w.own_first;
}
