-- What an answer means: a statement M of answers, where refusals go before; and that a call gives an answer which
-- means it.
use Rattle.std.specs.Prelude.{◌≡◌, List, ℕ}
use Rattle.std.proofs.Math.Option.{Option, none, some}
use Rattle.refusals.specs.declared.Refusal.{Refusal}
use Rattle.refusals.specs.Refusals.{Answer, refused, written}

-- the refusal that arises; or none does, and the answer means M
pub data MeansUnless {A : Type 0} (o : Option Refusal) (M : Answer A → Type 0) : Answer A → Type 0 where
  refused_before : {r : Refusal} → o ≡ some r → MeansUnless o M (refused r)
  none_before : {a : Answer A} → o ≡ none → M a → MeansUnless o M a

-- a call gives an answer that means M: what it returns, r, tells the answer, and the lent buffer is what it leaves
pub record Gives {R : Type 0} (told : Answer (List ℕ) → R) (M : Answer (List ℕ) → Type 0) (r : R)
    (before after : List ℕ) : Type 0 where
  pub answer : Answer (List ℕ)
  pub means : M answer
  pub returned : r ≡ told answer
  pub buffer : after ≡ written answer before
