-- Which refusals may arise: what holds of the one that arises, of several judged one after the other.
use mathlib.Core.Path.{◌≡◌, refl}
use mathlib.Core.Bool.{Bool, true, false, cond}
use mathlib.Core.List.{List, [], ◌∷◌, ◌++◌}
use mathlib.Core.Option.{Option, none, some}
use Rattle.refusals.specs.declared.Refusal.{Refusal}
use Rattle.refusals.specs.Refusals.{refuse, judged}

-- a refusal, if one arises, is as P says
abbrev pub Arises : (Refusal → Type 0) → Option Refusal → Type 0
Arises P none = Unit {0}
Arises P (some r) = P r

module _ (P : Refusal → Type 0) where
  -- what is judged later is reached where none arises before it
  pub arises_judged :
      (o : Option Refusal) (l : List (Option Refusal)) → Arises P o → (o ≡ none → Arises P (judged l))
      → Arises P (judged (o ∷ l))
  unfolding judged
  arises_judged none l p q = q refl
  arises_judged (some r) l p q = p

  pub arises_last : (o : Option Refusal) → Arises P o → Arises P (judged (o ∷ []))
  unfolding judged
  arises_last none p = tt
  arises_last (some r) p = p

  pub arises_both :
      (l m : List (Option Refusal)) → Arises P (judged l) → Arises P (judged m)
      → Arises P (judged (l ++ m))
  unfolding judged
  arises_both [] m p q = q
  arises_both (none ∷ l) m p q = arises_both l m p q
  arises_both (some r ∷ l) m p q = p

  -- a test that is refused where it fails, or where it passes
  pub arises_unless : (b : Bool) (r : Refusal) → P r → Arises P (cond b none (some r))
  arises_unless true r p = tt
  arises_unless false r p = p

  pub arises_refuse : (ok : Bool) (r : Refusal) → P r → Arises P (refuse ok r)
  unfolding refuse
  arises_refuse ok r p = arises_unless ok r p

  pub arises_where : (b : Bool) (r : Refusal) → P r → Arises P (cond b (some r) none)
  arises_where true r p = p
  arises_where false r p = tt
