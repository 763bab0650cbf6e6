-- The answer to a question, from what was judged before it: the listing is refused, the question is, or neither.
use Rattle.std.specs.Prelude.{Result, Ok}
use mathlib.Core.Path.{◌≡◌, ◌∙◌}
use mathlib.Core.List.{List}
use mathlib.Core.Option.{none, some}
use Prim.Native.Nat.{ℕ}
use Rattle.refusals.specs.declared.Refusal.{Refusal}
use Rattle.refusals.specs.Refusals.{judged, answered, returned}
use Rattle.refusals.proofs.Answers.{HandsOn, handed_on}
use Rattle.trees.specs.Listings.{tree_of}
use Rattle.listings.specs.Operations.{listing_refusal}
use Rattle.checks.specs.Questions.{question_refusal}
use Rattle.pairings.specs.Operations.{pairing_in, pairing_answer}

module _ (n : ℕ) (l q : List ℕ) {p : Result ℕ Refusal} {r : Refusal} where
  pub listing_refused : listing_refusal n l 0 0 ≡ some r → HandsOn p r → p ≡ returned (pairing_answer n l q)
  unfolding pairing_answer returned answered judged
  listing_refused h e = handed_on _ e ∙ rw h

  pub question_refused :
      listing_refusal n l 0 0 ≡ none → question_refusal n q ≡ some r → HandsOn p r
      → p ≡ returned (pairing_answer n l q)
  unfolding pairing_answer returned answered judged
  question_refused h g e = handed_on _ e ∙ rw (h, g)

pub question_answered :
    (n : ℕ) (l q : List ℕ) {x : ℕ} → listing_refusal n l 0 0 ≡ none → question_refusal n q ≡ none
    → x ≡ pairing_in (tree_of n l) q → Ok x ≡ returned (pairing_answer n l q)
unfolding pairing_answer returned answered judged
question_answered n l q h g e = rw (h, g, e)
