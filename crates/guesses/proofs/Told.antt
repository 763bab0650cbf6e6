-- What the guess tells, made of what was told before it: of the refusals that go before, and of the rebuild of the
-- table, whose tree it gives where there is one.
use Rattle.std.specs.Prelude.{Result, Ok, Err}
use mathlib.Core.Path.{◌≡◌, refl, ap, sym, ◌∙◌}
use mathlib.Core.List.{List}
use mathlib.Core.Option.{Option, none, some}
use Prim.Native.Nat.{ℕ}
use native.Mathlib.Omega.{arith}
use Rattle.refusals.specs.declared.Refusal.{Refusal}
use Rattle.refusals.specs.Refusals.{Outcome, Answer, accepted, refused, answered, outcome_of, outcome, written}
use Rattle.refusals.proofs.Answers.{refused_some, HandsOn, handed_on}
use Rattle.tree_records.specs.declared.Origin.TheVariants.{Rebuilt, Guessed}
use Rattle.merging.specs.Rebuilds.{rebuilt}
use Rattle.merging.specs.Guesses.{Reply, guessed, replied}
use Rattle.merging.proofs.Guesses.{replied_exact, replied_guessed}
use Rattle.guess_answers.specs.Operations.{listing_of}
use Rattle.guesses.specs.declared.Found.{Found}
use Rattle.guesses.specs.Outcomes.{found, guess_outcome}

-- the answer a is told by r, and the buffer has its listing
abbrev pub Tells : Result Found Refusal → Answer Reply → (before after : List ℕ) → Type 0
Tells r a before after = (r ≡ guess_outcome a) × (after ≡ written (listing_of a) before)

-- the reply R is told by f, and the buffer has its listing
abbrev pub TellsReply : Found → Reply → (before after : List ℕ) → Type 0
TellsReply f R before after = (f ≡ found R) × (after ≡ written (listing_of (accepted R)) before)

-- The outcome of an answer tells whether it is accepted.
is_accepted : {A : Type 0} (a : Answer A) → outcome a ≡ Ok tt → (x : A) × (a ≡ accepted x)
unfolding outcome
is_accepted (accepted x) h = (x, refl)
is_accepted (refused r) h = absurd (let z : ◌≡◌ {A = ℕ} 0 1 = cc in omega arith)

is_refused : {A : Type 0} (a : Answer A) {x : Refusal} → outcome a ≡ Err x → a ≡ refused x
unfolding outcome
is_refused (accepted y) h = absurd (let z : ◌≡◌ {A = ℕ} 0 1 = cc in omega arith)
is_refused (refused r) h = cc

-- The reply to a table t, by the outcome q of its rebuild, which leaves `out'` in the buffer.
module _ (n s : ℕ) (t out : List ℕ) {q : Outcome} {out' : List ℕ} (told : q ≡ outcome (rebuilt n s t))
    (put : out' ≡ written (rebuilt n s t) out) where
  -- done: the tree is rebuilt
  pub tells_rebuilt : q ≡ Ok tt → TellsReply (record { origin = Rebuilt; total = 0 }) (replied n s t) out out'
  unfolding listing_of
  tells_rebuilt done =
      let l = is_accepted (rebuilt n s t) (sym told ∙ done) in
      rw (replied_exact n s t l.0 l.1) (refl, rw l.1 at put)

  -- refused: the buffer is as it was, and what is written over it is the guess
  module _ {x : Refusal} (refusal : q ≡ Err x) where
    no_tree : rebuilt n s t ≡ refused x
    no_tree = is_refused (rebuilt n s t) (sym told ∙ refusal)

    pub as_it_was : out' ≡ out
    unfolding written
    as_it_was = rw no_tree at put

    pub tells_guess :
        {total : ℕ} {out'' : List ℕ} → total ≡ (guessed n s t).total
        → out'' ≡ written (accepted (guessed n s t).listing) out'
        → TellsReply (record { origin = Guessed; total = total }) (replied n s t) out out''
    unfolding listing_of guessed
    tells_guess sum over =
        rw (replied_guessed n s t x no_tree) (rw sum, rw as_it_was at over)

-- Refusals o that go before: none arises, or this one.
module _ (o : Option Refusal) (R : Reply) (out : List ℕ) where
  pub tells_on :
      {f : Found} {out' : List ℕ} → o ≡ none → TellsReply f R out out' → Tells (Ok f) (answered o R) out out'
  unfolding answered guess_outcome
  tells_on passes h = rw passes (ap Ok h.0, h.1)

  pub tells_hands : {r : Result Found Refusal} {x : Refusal} → o ≡ some x → HandsOn r x → Tells r (answered o R) out out
  unfolding answered guess_outcome listing_of written
  tells_hands h p = rw h (handed_on _ p, refl)

  pub tells_stop :
      {q : Outcome} {r : Result Found Refusal} {x : Refusal} → q ≡ outcome_of o → q ≡ Err x → HandsOn r x
      → Tells r (answered o R) out out
  tells_stop told h p = tells_hands (refused_some o _ (sym told ∙ h)) p
