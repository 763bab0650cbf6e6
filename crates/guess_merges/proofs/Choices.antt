-- The pair of labels that the search takes first names the nearest pair of the state that the arrays hold.
use mathlib.Core.Path.{◌≡◌, ap, sym, ◌∙◌}
use mathlib.Core.Logic.{◌⊎◌, inl, inr, ◌≢◌}
use mathlib.Core.Bool.{false}
use mathlib.Core.List.{List}
use Prim.Native.Nat.{ℕ, ◌≤◌, ◌<◌}
use native.Mathlib.Omega.{arith}
use native.Mathlib.Decide.{dec_lt, ℕ_discrete}
use lib.ListN.{get_or}
use Rattle.base.specs.Numbers.{less}
use Rattle.base.proofs.Counts.{count_le}
use Rattle.limits.specs.Limits.{most_leaves}
use Rattle.trees.specs.Trees.{leaves, least}
use Rattle.trees.specs.Tables.{cell}
use Rattle.trees.proofs.Trees.{size_pos, least_differ}
use Rattle.merging.specs.Merging.{State}
use Rattle.merging.specs.Guesses.{mean, IsNearest}
use Rattle.merging.proofs.States.{WellFormed, apart}
use Rattle.merging.proofs.Runs.{EqualHalves}
use Rattle.merging.proofs.Means.{mean_turn, mean_move, leader, leader_below}
use Rattle.state_arrays.specs.inner.StateArrays.{HoldsState}
use Rattle.state_arrays.proofs.StateArrays.{is_least, two_apart}
use Rattle.gap_sums.specs.inner.GapSums.{SmallGaps}
use Rattle.nearest_pairs.specs.inner.Nearest.{kept_mean, taken_before, TwoLabels, SearchFits, Chosen}
use Rattle.nearest_pairs.proofs.Order.{not_sooner}
use Rattle.guess_merges.specs.inner.Guessing.{KeepsGaps}

module _ {n s : ℕ} {S : State} (w : WellFormed n S) {label m sizes : List ℕ} (h : HoldsState n s label m sizes S) where
  -- what the search asks of the arrays
  pub search_fits : n ≤ most_leaves → (sums : List ℕ) → SmallGaps n sums → SearchFits n label sizes sums
  search_fits few sums small = record {
    few = few;
    filled = λ k l o. rw (h.sized k l o) (size_pos (S.tree k));
    sized = λ k l o. rw (h.sized k l o, w.sized k l) (omega (arith, count_le n (leaves (S.tree k))));
    small = small;
  }

  -- the least leaves of two subtrees are labels
  leader_own : (x : ℕ) → x < n → get_or label (least (S.tree x)) 0 ≡ least (S.tree x)
  leader_own x l = h.labels (least (S.tree x)) (leader_below w x l) ∙ ap least (leader w x)

  leaders :
      (x y : ℕ) → x < n → y < n → least (S.tree x) < least (S.tree y)
      → TwoLabels n label (least (S.tree x)) (least (S.tree y))
  leaders x y lx ly up = record {
    rising = up;
    below = leader_below w y ly;
    own_first = leader_own x lx;
    own_second = leader_own y ly;
  }

  module _ (t sums : List ℕ) (halves : EqualHalves n (cell n t)) (kept : KeepsGaps n s t label sums S) where
    -- what is kept is the mean
    kept_is : (i j : ℕ) → TwoLabels n label i j → kept_mean sizes sums (i, j) ≡ mean n s (cell n t) S (i, j)
    unfolding kept_mean mean
    kept_is i j two =
        let li : i < n = omega (arith, two.rising, two.below) in
        rw (kept i j two, h.sized i li two.own_first, h.sized j two.below two.own_second)

    -- of two subtrees, named by any leaves
    kept_of :
        (x y : ℕ) → x < n → y < n → least (S.tree x) < least (S.tree y)
        → kept_mean sizes sums (least (S.tree x), least (S.tree y)) ≡ mean n s (cell n t) S (x, y)
    kept_of x y lx ly up =
        kept_is _ _ (leaders x y lx ly up)
        ∙ mean_move n s (cell n t) S x y (least (S.tree x)) (least (S.tree y)) (leader w x) (leader w y)

    module _ (a b : ℕ) (z : b ≢ n) (v : Chosen n label sizes sums a b) where
      two : TwoLabels n label a b
      two = v.two z

      first_below : a < n
      first_below = omega (arith, two.rising, two.below)

      mean_ab : kept_mean sizes sums (a, b) ≡ mean n s (cell n t) S (a, b)
      mean_ab = kept_is a b two

      -- no two subtrees are taken before
      not_before :
          (x y : ℕ) (lx : x < n) (ly : y < n) → least (S.tree x) < least (S.tree y)
          → (less (mean n s (cell n t) S (x, y)) (mean n s (cell n t) S (a, b)) ≡ false)
          × (less (mean n s (cell n t) S (a, b)) (mean n s (cell n t) S (x, y)) ≡ false
          → ((least (S.tree x) < a) ⊎ ((least (S.tree x) ≡ a) × (least (S.tree y) < b))) → ⊥)
      unfolding taken_before
      not_before x y lx ly up =
          rw (kept_of x y lx ly up, mean_ab)
          at (not_sooner (kept_mean sizes sums) (least (S.tree x), least (S.tree y)) (a, b)
          (v.first z _ _ (leaders x y lx ly up) (leader_below w x lx)))

      small :
          (x y : ℕ) → x < n → y < n → leaves (S.tree x) y ≡ false
          → less (mean n s (cell n t) S (x, y)) (mean n s (cell n t) S (a, b)) ≡ false
      small x y lx ly d = elim (dec_lt (least (S.tree x)) (least (S.tree y))) [
        | yes up ↦ (not_before x y lx ly up).0
        | no g ↦
            let up : least (S.tree y) < least (S.tree x) =
            omega (arith, least_differ (S.tree x) (S.tree y) (apart w x y d)) in
            rw (mean_turn n s (cell n t) S halves x y) (not_before y x ly lx up).0
      ]

      not_behind :
          (x y : ℕ) (lx : x < n) (ly : y < n) → least (S.tree x) < least (S.tree y)
          → less (mean n s (cell n t) S (a, b)) (mean n s (cell n t) S (x, y)) ≡ false
          → (a < least (S.tree x)) ⊎ ((a ≡ least (S.tree x)) × (b ≤ least (S.tree y)))
      not_behind x y lx ly up e = elim (dec_lt a (least (S.tree x))) [
        | yes l ↦ inl l
        | no g ↦ elim (ℕ_discrete a (least (S.tree x))) [
          | no d ↦ absurd ((not_before x y lx ly up).1 e (inl (omega arith)))
          | yes q ↦ elim (dec_lt (least (S.tree y)) b) [
            | yes l ↦ absurd ((not_before x y lx ly up).1 e (inr (sym q, l)))
            | no f ↦ inr (q, omega arith)
          ]
        ]
      ]

      pub chosen_nearest : IsNearest n s (cell n t) S (a, b)
      chosen_nearest = record {
        rising = two.rising;
        below = two.below;
        different = two_apart w h a first_below two.own_first b two.below two.own_second
            (λ e. omega (arith, two.rising));
        least_first = is_least w h a first_below two.own_first;
        least_other = is_least w h b two.below two.own_second;
        smallest_mean = small;
        ties = λ x y lx ly d up e. not_behind x y lx ly up e;
      }

    -- there is a pair where two subtrees are left
    pub chosen_some :
        {q : ℕ × ℕ} → IsNearest n s (cell n t) S q → (a b : ℕ) → Chosen n label sizes sums a b → b ≢ n
    chosen_some {q} f a b v e =
        let l : q.0 < n = omega (arith, f.rising, f.below) in
        v.none e q.0 q.1 (record {
          rising = f.rising;
          below = f.below;
          own_first = h.labels q.0 l ∙ f.least_first;
          own_second = h.labels q.1 f.below ∙ f.least_other;
        }) l
