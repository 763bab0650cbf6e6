-- Meanings of answers: where refusals go before, the answer means what it is to, and is the only one that does.
use mathlib.Core.Path.{◌≡◌, refl}
use mathlib.Core.List.{List}
use mathlib.Core.Option.{Option, none, some}
use Prim.Native.Nat.{ℕ}
use native.Mathlib.Omega.{arith}
use Rattle.refusals.specs.declared.Refusal.{Refusal}
use Rattle.refusals.specs.Refusals.{Answer, unless, written}
use Rattle.refusals.specs.Meanings.{MeansUnless, refused_before, none_before, Gives}

module _ {A : Type 0} (M : Answer A → Type 0) where
  pub unless_means : (o : Option Refusal) (a : Answer A) → (o ≡ none → M a) → MeansUnless o M (unless o a)
  unfolding unless
  unless_means none a h = none_before refl (h refl)
  unless_means (some r) a h = refused_before refl

  pub unless_fixed :
      {o : Option Refusal} {a b : Answer A} → ((a b : Answer A) → M a → M b → a ≡ b) → MeansUnless o M a
      → MeansUnless o M b → a ≡ b
  unless_fixed fixed (refused_before e) (refused_before e') = cc
  unless_fixed fixed (refused_before e) (none_before e' m) = absurd (let z : ◌≡◌ {A = ℕ} 0 1 = cc in omega arith)
  unless_fixed fixed (none_before e m) (refused_before e') = absurd (let z : ◌≡◌ {A = ℕ} 0 1 = cc in omega arith)
  unless_fixed fixed (none_before e m) (none_before e' m') = fixed _ _ m m'

-- what a contract says of an answer that means M: what is returned; and the buffer; and the meaning
pub with_meaning :
    {R : Type 0} {r : R} {before after : List ℕ} (told : Answer (List ℕ) → R) (M : Answer (List ℕ) → Type 0)
    (a : Answer (List ℕ)) → M a → (r ≡ told a) × (after ≡ written a before)
    → (r ≡ told a) × ((after ≡ written a before) × Gives told M r before after)
with_meaning told M a m p =
    (p.0, (p.1, record { answer = a; means = m; returned = p.0; buffer = p.1 }))
