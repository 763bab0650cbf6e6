-- The sums that are worked anew after a merge are those of the state: labels say which leaves a subtree has, and what
-- is expected of a cell is what the arrays say.
use mathlib.Core.Path.{◌≡◌, sym, ap, ◌∙◌}
use mathlib.Core.Logic.{inl, inr, ◌≢◌}
use mathlib.Core.Bool.{true, false, ◌&&◌, and_comm}
use mathlib.Core.List.{List}
use Prim.Native.Nat.{ℕ, ◌+◌, ◌-◌, ◌*◌, ◌≤◌, ◌<◌}
use native.Mathlib.Nat.{add_comm}
use native.Mathlib.Omega.{arith}
use native.Mathlib.Decide.{ℕ_discrete}
use borrow.Author.Tests.{eqb-true, eq-eqb, ne_eqb}
use lib.Dec.{eqb}
use lib.ListN.{get_or}
use Rattle.base.specs.Numbers.{indicator, sum_below, distance}
use Rattle.base.proofs.Bools.{bool?, and_both}
use Rattle.base.proofs.Counts.{indicator_when}
use Rattle.base.proofs.Sums.{sum_ext, sum_swap, indicator_each}
use Rattle.trees.specs.Trees.{Tree, leaves, size, least}
use Rattle.trees.specs.Tables.{cell, IsTable}
use Rattle.merging.specs.Merging.{State, expected}
use Rattle.merging.specs.Guesses.{gap_sum}
use Rattle.merging.proofs.States.{WellFormed, two_fit}
use Rattle.merging.proofs.Means.{leader, leader_below}
use Rattle.state_arrays.specs.inner.Fits.{Given}
use Rattle.state_arrays.specs.inner.StateArrays.{HoldsState}
use Rattle.state_arrays.proofs.StateArrays.{in_label, label_in, label_out, two_apart, expected_is, fair}
use Rattle.gap_sums.specs.inner.GapSums.{due_at, gap_in, leaf_gaps, subtree_gaps, SumsFit}

module _ {n s : ℕ} {S : State} (w : WellFormed n S) {label m sizes : List ℕ} (h : HoldsState n s label m sizes S) where
  -- whether a leaf is in a label's subtree
  pub label_test :
      (i : ℕ) → i < n → get_or label i 0 ≡ i → (x : ℕ) → x < n → leaves (S.tree i) x ≡ eqb (get_or label x 0) i
  label_test i li o x lx = elim (bool? (leaves (S.tree i) x)) [
    | inl p ↦ p ∙ sym (eq-eqb (get_or label x 0) i (label_in w h i li o x lx p))
    | inr p ↦ p ∙ sym (ne_eqb (get_or label x 0) i (label_out w h i li o x lx p))
  ]

  -- the label of a leaf is one
  pub label_below : (x : ℕ) → x < n → get_or label x 0 < n
  label_below x lx = rw (h.labels x lx) (leader_below w x lx)

  pub label_own : (x : ℕ) → x < n → get_or label (get_or label x 0) 0 ≡ get_or label x 0
  label_own x lx =
      rw (h.labels x lx, h.labels (least (S.tree x)) (leader_below w x lx)) (ap least (leader w x))

  module _ {t p : List ℕ} (g : Given n s t p) where
    pub sums_fit : (a : ℕ) → a < n → get_or label a 0 ≡ a → SumsFit n label m sizes p a
    sums_fit a la o =
        let f = fair w h g in
        record {
          few = f.few;
          small = f.small;
          small_counts = f.small_counts;
          first = la;
          labelled = label_below;
          room = λ y ly d. f.room a (get_or label y 0) la (label_below y ly) (λ q. d (sym q)) o (label_own y ly);
        }

    -- the gaps of two labels are those of their subtrees
    module _ (a b : ℕ) (la : a < n) (lb : b < n) (oa : get_or label a 0 ≡ a) (ob : get_or label b 0 ≡ b) (d : a ≢ b)
      where
        due_is :
            (x y : ℕ) → x < n → y < n → get_or label y 0 ≡ b
            → due_at n label m sizes p a y + get_or m x 0 ≡ expected n s S (S.tree a) (S.tree b) x y
        unfolding due_at expected
        due_is x y lx ly q =
            rw (q, ne_eqb b a (λ z. d (sym z))) (omega (arith, expected_is w h g a b la lb oa ob x y lx ly))

        one :
            (x y : ℕ) → x < n → y < n
            → indicator (eqb (get_or label y 0) b && eqb (get_or label x 0) a)
            (distance (cell n t x y) (due_at n label m sizes p a y + get_or m x 0))
            ≡ indicator (leaves (S.tree a) x && leaves (S.tree b) y)
            (distance (cell n t x y) (expected n s S (S.tree a) (S.tree b) x y))
        one x y lx ly =
            rw (
              label_test a la oa x lx,
              label_test b lb ob y ly,
              and_comm (eqb (get_or label x 0) a) (eqb (get_or label y 0) b),
            )
            (indicator_when (eqb (get_or label y 0) b && eqb (get_or label x 0) a) _ _ (λ u.
            let q =
            eqb-true (get_or label y 0) b (and_both (eqb (get_or label y 0) b) (eqb (get_or label x 0) a) u).0 in
            ap (distance (cell n t x y)) (due_is x y lx ly q)))

        pub subtree_gaps_are :
            subtree_gaps n t label m sizes p a b ≡ gap_sum n s (cell n t) S (S.tree a) (S.tree b)
        unfolding subtree_gaps leaf_gaps gap_in gap_sum
        subtree_gaps_are =
            sum_ext n _ _ (λ y ly. indicator_each (eqb (get_or label y 0) b) n (λ x. eqb (get_or label x 0) a) _
            ∙ sum_ext n _ _ (λ x lx. one x y lx ly))
            ∙ sym (sum_swap n n (λ x y. indicator (leaves (S.tree a) x && leaves (S.tree b) y)
            (distance (cell n t x y) (expected n s S (S.tree a) (S.tree b) x y))))
