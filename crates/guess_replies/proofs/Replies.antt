-- What the reply of a guess tells: number, origin and total gap come apart again, and it is 0 exactly where a tree has
-- the table. The total gap fits 48 bits where the cells fit 32 (guess_answers/Promises), so that nothing is cut off.
use Rattle.std.specs.Prelude.{Result}
use mathlib.Core.Path.{◌≡◌, refl, ap, sym, ◌∙◌}
use mathlib.Core.Logic.{◌↔◌}
use Prim.Native.Nat.{ℕ, ◌+◌, ◌*◌, ◌/◌, ◌%◌, ◌^◌, ◌<◌}
use native.Mathlib.Omega.{arith}
use Rattle.refusals.specs.declared.Refusal.{Refusal}
use Rattle.refusals.specs.Refusals.{Answer, accepted, refused}
use Rattle.tree_records.specs.declared.Origin.{Origin}
use Rattle.tree_records.specs.declared.Origin.TheVariants.{Rebuilt, Listed, Imported, Guessed, Grafted}
use Rattle.tree_records.specs.Origins.{origin_number, origin_of}
use Rattle.tree_records.proofs.Origins.{numbered}
use Rattle.replies.specs.Replies.{eight_bits, refusal_reply}
use Rattle.replies.specs.inner.Told.{told_reply}
use Rattle.replies.proofs.Replies.{taken_apart, told_whole, two_in_one}
use Rattle.merging.specs.Guesses.{Reply}
use Rattle.guesses.specs.declared.Found.{Found}
use Rattle.guesses.specs.Outcomes.{guess_outcome, found_figure}
use Rattle.guess_replies.specs.Replies.{guess_reply}

-- the reply, as code makes it of the answer q
pub guess_replied :
    {r : ℕ} {q : Result Found Refusal} (a : Answer Reply) → r ≡ told_reply found_figure q → q ≡ guess_outcome a
    → r ≡ guess_reply a
unfolding guess_outcome guess_reply
guess_replied (accepted R) h e = rw e at h
guess_replied (refused x) h e = rw e at h

-- a refused call is told as elsewhere
pub guess_refusal : (x : Refusal) → guess_reply (refused x) ≡ refusal_reply x
unfolding guess_reply
guess_refusal x = refl

-- an origin's number has eight bits
few_origins : (o : Origin) → origin_number o < 8
few_origins Rebuilt = omega arith
few_origins Listed = omega arith
few_origins Imported = omega arith
few_origins Guessed = omega arith
few_origins Grafted = omega arith

-- An accepted call: the reply is 256 (origin + 256 total), and number, origin and total gap come apart again.
module _ (R : Reply) (fits : R.total < 2 ^ 48) where
  small : eight_bits * R.total + origin_number R.origin < 2 ^ 56
  small = omega (arith, few_origins R.origin)

  pub guess_reply_is : guess_reply (accepted R) ≡ 256 * (origin_number R.origin + 256 * R.total)
  unfolding guess_reply
  guess_reply_is = omega (arith, told_whole (eight_bits * R.total + origin_number R.origin) small)

  apart :
      let figured = guess_reply (accepted R) / eight_bits in
      (figured / eight_bits ≡ R.total) × (figured % eight_bits ≡ origin_number R.origin)
  unfolding guess_reply
  apart =
      let o = origin_number R.origin in
      let both = two_in_one R.total o small (omega (arith, few_origins R.origin)) in
      let figured = (taken_apart 0 (eight_bits * R.total + o) (omega arith)).1 in
      (ap (λ k. k / eight_bits) figured ∙ both.0, ap (λ k. k % eight_bits) figured ∙ both.1)

  pub guess_number : guess_reply (accepted R) % eight_bits ≡ 0
  unfolding guess_reply
  guess_number = (taken_apart 0 _ (omega arith)).0

  pub guess_origin : origin_of (guess_reply (accepted R) / eight_bits % eight_bits) ≡ R.origin
  guess_origin = ap origin_of apart.1 ∙ numbered R.origin

  pub guess_total : guess_reply (accepted R) / eight_bits / eight_bits ≡ R.total
  guess_total = apart.0

  -- it is 0 exactly for a tree that is rebuilt, with the total gap 0
  pub guess_zero : (guess_reply (accepted R) ≡ 0) ↔ ((R.origin ≡ Rebuilt) × (R.total ≡ 0))
  unfolding origin_of
  guess_zero = (
    λ e.
        let none : origin_number R.origin ≡ 0 = omega (arith, guess_reply_is) in
        (sym (numbered R.origin) ∙ ap origin_of none, omega (arith, guess_reply_is)),
    λ e. guess_reply_is ∙ rw (e.0, e.1),
  )
