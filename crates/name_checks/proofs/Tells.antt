-- What code returns where it judges and gives something: q is what it returns, of the refusals o and of x.
use mathlib.Core.Path.{◌≡◌, refl, sym, ◌∙◌}
use mathlib.Core.List.{List}
use mathlib.Core.Option.{Option, none, some}
use Prim.Native.Nat.{ℕ}
use native.Mathlib.Omega.{arith}
use Rattle.std.specs.Prelude.{Result, Ok, Err}
use Rattle.refusals.specs.declared.Refusal.{Refusal}
use Rattle.refusals.specs.Refusals.{Outcome, answered, outcome_of, outcome, written, returned}
use Rattle.refusals.proofs.Answers.{HandsOn, handed_on, outcome_answered, written_refused}

-- a call that takes something in tells a refusal that arises, and promises nothing of what it takes in
pub taken_none :
    {A : Type 0} {o : Option Refusal} {r : Refusal} {q : Outcome} → o ≡ some r → q ≡ Err r
    → (q ≡ outcome_of o) × (o ≡ none → A)
unfolding outcome_of
taken_none arises h = (rw (arises, h), λ none_arises. absurd (let z : ◌≡◌ {A = ℕ} 0 1 = cc in omega arith))

module _ {A : Type 0} where
  told_none : (o : Option Refusal) (x y : A) → returned (answered o x) ≡ Ok y → (o ≡ none) × (y ≡ x)
  unfolding answered returned
  told_none none x y h = (refl, cc)
  told_none (some r) x y h = absurd (let z : ◌≡◌ {A = ℕ} 0 1 = cc in omega arith)

  told_some : (o : Option Refusal) (x : A) (e : Refusal) → returned (answered o x) ≡ Err e → o ≡ some e
  unfolding answered returned
  told_some none x e h = absurd (let z : ◌≡◌ {A = ℕ} 0 1 = cc in omega arith)
  told_some (some r) x e h = cc

  -- a refusal that arises is handed on
  pub told_hands :
      {o : Option Refusal} (x : A) {r : Result A Refusal} {e : Refusal} → o ≡ some e → HandsOn r e
      → r ≡ returned (answered o x)
  unfolding answered returned
  told_hands x h p = handed_on _ p ∙ rw h

  module _ (o : Option Refusal) (x : A) {q : Result A Refusal} (t : q ≡ returned (answered o x)) where
    -- no refusal arises, and this is given
    pub tells_none : {y : A} → q ≡ Ok y → o ≡ none
    tells_none h = (told_none o x _ (sym t ∙ h)).0

    pub tells_this : {y : A} → q ≡ Ok y → y ≡ x
    tells_this h = (told_none o x _ (sym t ∙ h)).1

    -- a refusal arises, and is handed on
    module _ {e : Refusal} (h : q ≡ Err e) where
      pub tells_some : o ≡ some e
      tells_some = told_some o x e (sym t ∙ h)

      pub tells_outcome : {r : Outcome} → HandsOn r e → r ≡ outcome_of o
      unfolding outcome_of
      tells_outcome p = handed_on _ p ∙ rw tells_some

-- the refusal that one call tells, handed on by another that gives something else
pub tells_on :
    {A B : Type 0} (o : Option Refusal) (x : A) {q : Result A Refusal} {e : Refusal} → q ≡ returned (answered o x)
    → q ≡ Err e
    → (y : B) {r : Result B Refusal} → HandsOn r e → r ≡ returned (answered o y)
tells_on o x t h y p = told_hands y (tells_some o x t h) p

-- the same by a call whose result stands in a buffer, which is left as it was
pub tells_answered :
    {A B : Type 0} (o : Option Refusal) (x : A) {q : Result A Refusal} {e : Refusal} → q ≡ returned (answered o x)
    → q ≡ Err e
    → (y out : List B) {r : Outcome} → HandsOn r e
    → (r ≡ outcome (answered o y)) × (out ≡ written (answered o y) out)
tells_answered o x t h y out p =
    let arises = tells_some o x t h in
    (tells_outcome o x t h p ∙ sym (outcome_answered o y), sym (written_refused o _ y out arises))
