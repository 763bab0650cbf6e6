-- The answer of an operation that returns its result: a refusal that arises, or the result.
use mathlib.Core.Path.{◌≡◌, ◌∙◌}
use mathlib.Core.Option.{Option, none, some}
use Rattle.std.specs.Prelude.{Result, Ok}
use Rattle.refusals.specs.declared.Refusal.{Refusal}
use Rattle.refusals.specs.Refusals.{answered, returned}
use Rattle.refusals.proofs.Answers.{HandsOn, handed_on}

module _ {A : Type 0} (o : Option Refusal) (x : A) where
  pub returned_refused : {r : Result A Refusal} {e : Refusal} → o ≡ some e → HandsOn r e → r ≡ returned (answered o x)
  unfolding answered returned
  returned_refused h p = handed_on _ p ∙ rw h

  pub returned_given : {y : A} → o ≡ none → y ≡ x → Ok y ≡ returned (answered o x)
  unfolding answered returned
  returned_given h e = rw (h, e)
