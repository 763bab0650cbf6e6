-- Answers that are tree records: what code returns for one, made of the answer that tells no origin.
use Rattle.std.specs.Prelude.{Result}
use mathlib.Core.Path.{◌≡◌, sym}
use mathlib.Core.List.{List}
use Prim.Native.Nat.{ℕ}
use Rattle.refusals.specs.declared.Refusal.{Refusal}
use Rattle.refusals.specs.Refusals.{Outcome, Answer, accepted, refused, outcome}
use Rattle.refusals.proofs.Answers.{accepted_not_refused}
use Rattle.tree_records.specs.declared.Origin.{Origin}
use Rattle.tree_records.specs.Records.{TreeRecord, marked, tree_outcome}
use Rattle.tree_records.specs.inner.Outcomes.{marked_outcome}

-- what `mark` makes of the outcome of an answer
pub mark_told :
    (n : ℕ) (o : Origin) (a : Answer (List ℕ)) {q : Outcome} {r : Result Origin Refusal} → r ≡ marked_outcome o q
    → q ≡ outcome a → r ≡ tree_outcome (marked n o a)
unfolding outcome marked tree_outcome
mark_told n o (accepted l) h e = rw e at h
mark_told n o (refused x) h e = rw e at h

-- a record that was made: its listing is the answer's, its leaf count and its origin are those given
pub marked_accepted :
    (n : ℕ) (o : Origin) (a : Answer (List ℕ)) {R : TreeRecord} → marked n o a ≡ accepted R
    → (a ≡ accepted R.listing) × (R.leaves ≡ n) × (R.origin ≡ o)
unfolding marked
marked_accepted n o (accepted l) e = (cc, cc, cc)
marked_accepted n o (refused x) e = absurd (accepted_not_refused _ x (sym e))
