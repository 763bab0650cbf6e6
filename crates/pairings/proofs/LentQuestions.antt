-- Questions lent as a list: the leaf count or the number of numbers is refused, or the operation decides.
use Rattle.std.specs.Prelude.{Result, Ok, Err}
use mathlib.Core.Path.{◌≡◌, refl, ◌∙◌}
use mathlib.Core.Bool.{true, false}
use mathlib.Core.List.{List}
use mathlib.Core.Option.{none}
use Prim.Native.Nat.{ℕ}
use lib.Dec.{eqb}
use lib.ListN.{length}
use Rattle.limits.specs.declared.Kind.TheVariants.{Counts}
use Rattle.refusals.specs.declared.Refusal.{Refusal}
use Rattle.refusals.specs.declared.Refusal.TheVariants.{LeafCount, InputLength}
use Rattle.refusals.specs.Refusals.{judged, unless, returned}
use Rattle.refusals.proofs.Answers.{HandsOn, handed_on}
use Rattle.refusals.proofs.Causes.{arises_refuse}
use Rattle.checks.specs.Sizes.{right_count, count_refusal, length_refusal, by_value}
use Rattle.checks.proofs.Sizes.{is_count, count_stops, count_passes, value_right, value_wrong}
use Rattle.pairings.specs.Operations.{pairing_answer, lent_pairing_answer}

-- only 2 arises where a question is not of four numbers
pub length_cause : (q : List ℕ) {r : Refusal} → Err r ≡ by_value 4 q → r ≡ InputLength
unfolding length_refusal
length_cause q h =
    let is_2 : Refusal → Type 0 = λ r. r ≡ InputLength in
    rw (value_wrong 4 q h) at (arises_refuse is_2 (eqb (length q) 4) InputLength refl)

module _ (n : ℕ) (l q : List ℕ) where
  pub count_refused : right_count Counts n ≡ false → Err LeafCount ≡ returned (lent_pairing_answer n l q)
  unfolding lent_pairing_answer unless judged returned
  count_refused h = rw (count_stops Counts n h)

  module _ (count : right_count Counts n ≡ true) where
    fine : count_refusal n ≡ none
    fine = count_passes Counts n (is_count Counts n count)

    pub length_refused :
        {p : Result ℕ Refusal} {r s : Refusal} → Err r ≡ by_value 4 q → HandsOn p s → s ≡ InputLength
        → p ≡ returned (lent_pairing_answer n l q)
    unfolding lent_pairing_answer unless judged returned
    length_refused h e is_2 = handed_on _ e ∙ rw (is_2, fine, value_wrong 4 q h, length_cause q h)

    pub lent_asked :
        {p : Result ℕ Refusal} {asked : List ℕ} → Ok asked ≡ by_value 4 q → p ≡ returned (pairing_answer n l asked)
        → p ≡ returned (lent_pairing_answer n l q)
    unfolding lent_pairing_answer unless judged
    lent_asked h e = let v = value_right 4 q h in e ∙ rw (v.1, fine, v.0)
