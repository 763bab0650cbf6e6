-- Rows without a wrong cell: a count of 0 says that each leaf of a subtree has the cell expected.
use mathlib.Core.Path.{◌≡◌, refl, ◌∙◌}
use mathlib.Core.Logic.{inl, inr, ◌↔◌}
use mathlib.Core.Bool.{Bool, true, false, not}
use mathlib.Core.List.{List}
use Prim.Native.Nat.{ℕ, ◌+◌, ◌<◌}
use native.Mathlib.Numerals.{add-one}
use borrow.Author.Tests.{eqb-true, eq-eqb, not-true}
use lib.Dec.{eqb}
use lib.ListN.{get_or}
use Rattle.base.specs.Numbers.{indicator, count_below}
use Rattle.base.proofs.Bools.{bool?, never, eqb_same}
use Rattle.base.proofs.Counts.{count_suc, count_zero, zero_count}
use Rattle.trees.specs.Tables.{cell}
use Rattle.eligible_pairs.specs.inner.Mismatches.{mismatch, mismatch_at}

-- the answers of a test
pub says_no : {Q : Type 0} → (Q → ⊥) → (◌≡◌ {A = Bool} false true) ↔ Q
says_no h = (λ e. absurd (never e refl), λ q. absurd (h q))

pub says_yes : {Q : Type 0} → Q → (◌≡◌ {A = Bool} true true) ↔ Q
says_yes q = (λ e. q, λ r. refl)

-- what a test of a cell says
pub unexpected : (r : Bool) (c v : ℕ) → r ≡ eqb c v → not r ≡ true → c ≡ v → ⊥
unexpected r c v e f h = never (e ∙ eq-eqb c v h) (not-true r f)

-- one leaf more is counted
pub count_turn :
    (f : ℕ → Bool) (y bad r : ℕ) → bad ≡ count_below y f → r ≡ indicator (f y) 1 → bad + r ≡ count_below (y + 1) f
count_turn f y bad r p q = rw (p, q, add-one y, count_suc y f)

off_false : (l b w v : ℕ) → mismatch l b w v ≡ false → l ≡ b → w ≡ v
unfolding mismatch
off_false l b w v h e = elim (bool? (eqb w v)) [
  | inl t ↦ eqb-true w v t
  | inr f ↦ absurd (never refl (rw (f, e, eqb_same b) at h))
]

false_off : (l b w v : ℕ) → (l ≡ b → w ≡ v) → mismatch l b w v ≡ false
unfolding mismatch
false_off l b w v h = elim (bool? (eqb l b)) [ inl t ↦ rw (t, h (eqb-true l b t), eqb_same v) | inr f ↦ rw f ]

-- Row x, read as a whole: it has no wrong cell exactly where each leaf of b has the cell expected.
module _ (n : ℕ) (t label m : List ℕ) (x b e : ℕ) where
  pub row_right :
      count_below n (mismatch_at n t label m x b e) ≡ 0 → (y : ℕ) → y < n → get_or label y 0 ≡ b
      → cell n t x y ≡ e + get_or m y 0
  unfolding mismatch_at
  row_right h y l = off_false (get_or label y 0) b _ _ (count_zero n (mismatch_at n t label m x b e) h y l)

  pub right_row :
      ((y : ℕ) → y < n → get_or label y 0 ≡ b → cell n t x y ≡ e + get_or m y 0)
      → count_below n (mismatch_at n t label m x b e) ≡ 0
  unfolding mismatch_at
  right_row h = zero_count n (mismatch_at n t label m x b e) (λ y l. false_off (get_or label y 0) b _ _ (h y l))
