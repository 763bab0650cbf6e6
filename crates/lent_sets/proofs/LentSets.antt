-- What is made of two lent sets: the answer where a refusal arises, and where none does.
use Rattle.std.specs.Prelude.{Result, Bool, Ok, Err}
use mathlib.Core.Path.{◌≡◌, ◌∙◌}
use mathlib.Core.List.{List, ◌++◌}
use mathlib.Core.Option.{none, some}
use Prim.Native.Nat.{ℕ, ◌≤◌, ◌<◌, ◌+◌}
use lib.ListN.{length, take, drop}
use Rattle.base.proofs.Bits.{length_cells}
use Rattle.limits.specs.Limits.{set_bytes}
use Rattle.refusals.specs.declared.Refusal.{Refusal}
use Rattle.refusals.specs.declared.Refusal.TheVariants.{OutputRoom}
use Rattle.refusals.specs.Refusals.{Outcome, answered, outcome, returned, written}
use Rattle.refusals.proofs.Answers.{HandsOn, handed_on}
use Rattle.refusals.proofs.Returned.{returned_refused, returned_given}
use Rattle.trees.specs.Splits.{bytes_of, set_of}
use Rattle.sets.specs.declared.Combination.{Combination}
use Rattle.sets.specs.Sets.{combined, same_set}
use Rattle.lent_sets.specs.Operations.{pair_refusal, sets_refusal, combine_answer, equal_answer}
use Rattle.lent_sets.proofs.Pairs.{pair_off, room_short, all_fit}

-- Join and intersect: the answer, and what stands in the buffer.
module _ (what : Combination) (a b out : List ℕ) where
  refused :
      {r : Refusal} → sets_refusal (length a) (length b) (length out) ≡ some r
      → Err r ≡ outcome (combine_answer what a b (length out))
  unfolding combine_answer answered outcome
  refused h = rw h

  left :
      {r : Refusal} → sets_refusal (length a) (length b) (length out) ≡ some r
      → out ≡ written (combine_answer what a b (length out)) out
  unfolding combine_answer answered written
  left h = rw h

  module _ {r : Refusal} (off : pair_refusal (length a) (length b) ≡ some r) where
    pub combine_refused : {q : Outcome} → HandsOn q r → q ≡ outcome (combine_answer what a b (length out))
    combine_refused h = handed_on _ h ∙ refused (pair_off _ _ _ off)

    pub buffer_left : out ≡ written (combine_answer what a b (length out)) out
    buffer_left = left (pair_off _ _ _ off)

  module _ (fit : pair_refusal (length a) (length b) ≡ none) where
    pub room_refused : length out < set_bytes → Err OutputRoom ≡ outcome (combine_answer what a b (length out))
    room_refused l = refused (room_short _ _ _ fit l)

    pub room_left : length out < set_bytes → out ≡ written (combine_answer what a b (length out)) out
    room_left l = left (room_short _ _ _ fit l)

    module _ (room : set_bytes ≤ length out) where
      pub combine_done : Ok tt ≡ outcome (combine_answer what a b (length out))
      unfolding combine_answer answered outcome
      combine_done = rw (all_fit _ _ _ fit room)

      -- the set stands at the front
      pub set_put :
          {x y s out' : List ℕ} → x ≡ a → y ≡ b → s ≡ bytes_of (combined what (set_of x) (set_of y))
          → out' ≡ take 0 out ++ s ++ drop (0 + set_bytes) out
          → out' ≡ written (combine_answer what a b (length out)) out
      unfolding combine_answer answered written
      set_put ex ey es e =
          rw (all_fit _ _ _ fit room, length_cells 8 set_bytes (combined what (set_of a) (set_of b)))
          (e ∙ rw (es, ex, ey))

pub ruleset combine_told = (combine_refused, buffer_left, room_refused, room_left, combine_done, set_put)

-- Equal: the answer.
module _ (a b : List ℕ) where
  pub equal_refused :
      {q : Result Bool Refusal} {r : Refusal} → pair_refusal (length a) (length b) ≡ some r → HandsOn q r
      → q ≡ returned (equal_answer a b)
  unfolding equal_answer
  equal_refused h p = returned_refused _ _ h p

  pub equal_given :
      {x y : List ℕ} {same : Bool} → pair_refusal (length a) (length b) ≡ none → x ≡ a → y ≡ b
      → same ≡ same_set (set_of x) (set_of y) → Ok same ≡ returned (equal_answer a b)
  unfolding equal_answer
  equal_given h ex ey e = returned_given _ _ h (rw (← ex, ← ey) e)

pub ruleset equal_told = (equal_refused, equal_given)
