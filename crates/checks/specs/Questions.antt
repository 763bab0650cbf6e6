-- Questions (01, "Causes of refusal"): leaves that are asked for, in a list, and the refusal 9.
use Rattle.std.specs.Prelude.{Bool, ◌||◌, List, ℕ, leb, eqb, length, get_or, take}
use Rattle.std.proofs.Math.Option.{Option, none, some}
use Rattle.base.specs.Lists.{tab, any_in, find}
use Rattle.refusals.specs.declared.Refusal.{Refusal}
use Rattle.refusals.specs.declared.Refusal.TheVariants.{Question}

-- position p of a question is ≥ n, or repeats an earlier one
abbrev pub wrong_at : ℕ → List ℕ → ℕ → Bool
wrong_at n q p = leb n (get_or q p 0) || any_in (eqb (get_or q p 0)) (take p q)

-- 9: the first such position
unfoldable pub question_refusal : ℕ → List ℕ → Option Refusal
question_refusal n q = elim (find (wrong_at n q) (tab (length q) (λ p. p))) [ none ↦ none | some p ↦ some (Question p) ]
