-- A question from its positions: the first bad one is refused, with 9; where none is bad, none is refused.
use mathlib.Core.Path.{◌≡◌, refl}
use mathlib.Core.Bool.{true, false}
use mathlib.Core.List.{List, [], ◌∷◌}
use mathlib.Core.Option.{Option, none, some}
use Prim.Native.Nat.{ℕ, ◌<◌}
use native.Mathlib.Omega.{arith}
use lib.Dec.{eqb}
use lib.ListN.{length}
use Rattle.std.specs.List.{list_any}
use Rattle.std.proofs.lemmas.Bool.Decides.{nat_tests}
use Rattle.base.specs.Lists.{tab, any_in}
use Rattle.base.proofs.Lists.{length_tab, getD_tab, none_not_some, none_found, find_none}
use Rattle.base.proofs.Searches.{first_found}
use Rattle.refusals.specs.declared.Refusal.{Refusal}
use Rattle.refusals.specs.declared.Refusal.TheVariants.{Question}
use Rattle.checks.specs.Questions.{wrong_at, question_refusal}

-- whether x is in a list, as `contains` tells it
pub any_equal : (x : ℕ) (l : List ℕ) → list_any (λ y. eqb y x) l ≡ any_in (eqb x) l
unfolding any_in
any_equal x [] = refl
any_equal x (y ∷ l) = let turned : eqb y x ≡ eqb x y = grind (arith, nat_tests) in rw (turned, any_equal x l)

module _ (n : ℕ) (q : List ℕ) where
  pub question_good : ((i : ℕ) → i < length q → wrong_at n q i ≡ false) → question_refusal n q ≡ none
  unfolding question_refusal
  question_good h = rw (none_found (wrong_at n q) (length q) (λ p. p) h, question_refusal)

  pub question_bad :
      (p : ℕ) → p < length q → wrong_at n q p ≡ true → ((i : ℕ) → i < p → wrong_at n q i ≡ false)
      → question_refusal n q ≡ some (Question p)
  unfolding question_refusal
  question_bad p l t h = rw (first_found (wrong_at n q) (length q) (λ p. p) p l t h, question_refusal)

  -- of a question that is not refused: no position is bad
  pub position_good : question_refusal n q ≡ none → (p : ℕ) → p < length q → wrong_at n q p ≡ false
  unfolding question_refusal
  position_good h p l =
      let positions = tab (length q) (λ i. i) in
      let here : p < length positions = rw (length_tab (length q) (λ i. i)) l in
      rw (getD_tab (length q) (λ i. i) p 0 l) at (find_none (wrong_at n q) positions (not_found _ h) p 0 here)
    where
      not_found :
          (o : Option ℕ) → ◌≡◌ {A = Option Refusal} (elim o [ none ↦ none | some p ↦ some (Question p) ]) none
          → o ≡ none
      not_found none g = refl
      not_found (some p) g = absurd (none_not_some _ (Question p) refl g)
