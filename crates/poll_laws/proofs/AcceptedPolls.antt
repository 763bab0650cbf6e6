-- What is so of an accepted poll: its table is that of its records, one for each quartet, and each record has four
-- leaves that rise and a right code. The idea: 1 for each quartet due whose leaves do not rise adds up to 0.
use mathlib.Core.Path.{◌≡◌, refl, sym, ◌∙◌}
use mathlib.Core.Bool.{Bool, true, false, not, ◌&&◌}
use mathlib.Core.List.{List, [], ◌∷◌}
use mathlib.Core.Option.{none}
use Prim.Native.Nat.{ℕ, suc, ◌≤◌}
use native.Mathlib.Omega.{arith}
use borrow.Author.Tests.{ltb-true, lt-ltb}
use lib.Dec.{ltb}
use lib.ListN.{length}
use Rattle.base.specs.Numbers.{indicator}
use Rattle.base.proofs.Bools.{and_both}
use Rattle.base.proofs.Counts.{indicator_none, indicator_when}
use Rattle.limits.specs.declared.Kind.TheVariants.{Poll}
use Rattle.limits.specs.Limits.{IsCountOf}
use Rattle.refusals.specs.Refusals.{accepted}
use Rattle.refusals.proofs.Answers.{judged_none, answered_accepted}
use Rattle.poll_rules.specs.declared.Record.{Record}
use Rattle.poll_rules.specs.declared.Quartet.{Quartet}
use Rattle.poll_rules.specs.Records.{last_code, quartets_of, record_refusal, records_refusal_from, records_refusal}
use Rattle.poll_rules.specs.Counts.{poll_table}
use Rattle.poll_rules.specs.Operations.{poll_sizes_refusal, poll_refusal, poll_answer}
use Rattle.poll_rules.specs.inner.Quartets.{Leaves}
use Rattle.poll_rules.proofs.Records.{passes_of, passes_code, same_leaves}
use Rattle.poll_rules.proofs.Quartets.{quartets_count}
use Rattle.poll_rules.proofs.Operations.{sizes_pass}
use Rattle.poll_laws.proofs.FourSums.{sum4_ext, sum4_zero, total, total_sum, rising, rising_lt}

-- each record has four leaves that rise, and a right code
pub data EachRight (n : ℕ) : List Record → Type 0 where
  no_record : EachRight n []
  one_more :
      {r : Record} {R : List Record} → Leaves n r.a r.b r.c r.d → r.code ≤ last_code → EachRight n R
      → EachRight n (r ∷ R)

pub record AcceptedPoll (n : ℕ) (R : List Record) (t : List ℕ) : Type 0 where
  pub count : IsCountOf Poll n
  pub due : length R ≡ length (quartets_of n)
  pub passed : records_refusal n R ≡ none
  pub each : EachRight n R
  pub table : poll_table n R ≡ t

-- the quartet's leaves rise, below n
abbrev rises : ℕ → Quartet → Bool
rises n q = rising q.a q.b q.c q.d && ltb q.d n

rises_leaves : (n : ℕ) (q : Quartet) → rises n q ≡ true → Leaves n q.a q.b q.c q.d
rises_leaves n q h =
    let x = and_both (rising q.a q.b q.c q.d) (ltb q.d n) h in
    let l = rising_lt q.a q.b q.c q.d x.0 in
    record { ab = l.0; bc = l.1; cd = l.2; dn = ltb-true q.d n x.1 }

-- 1 for a quartet whose leaves do not
abbrev unrising : ℕ → Quartet → ℕ
unrising n q = indicator (not (rises n q)) 1

none_holds : (b : Bool) → indicator (not b) 1 ≡ 0 → b ≡ true
none_holds true h = refl
none_holds false h = absurd (omega arith)

-- of those due there is none
none_unrising : (n : ℕ) → total (unrising n) (quartets_of n) ≡ 0
none_unrising n =
    total_sum n (unrising n)
    ∙ sum4_ext n _ (λ a b c d. 0) (λ a b c d la lb lc ld.
    indicator_when (rising a b c d) _ 0 (λ r. rw (r, lt-ltb d n ld)) ∙ indicator_none (rising a b c d))
    ∙ sum4_zero n (λ a b c d. 0) (λ a b c d. refl)

each_right :
    (n k : ℕ) (Q : List Quartet) (R : List Record) → length R ≡ length Q → records_refusal_from k Q R ≡ none
    → total (unrising n) Q ≡ 0 → EachRight n R
unfolding records_refusal_from total
each_right n k [] [] l h z = no_record
each_right n k [] (r ∷ R) l h z = absurd (omega arith)
each_right n k (q ∷ Q) [] l h z = absurd (omega arith)
each_right n k (q ∷ Q) (r ∷ R) l h z =
    let here = judged_none (record_refusal k q r) (records_refusal_from (suc k) Q R ∷ []) h in
    let rest = judged_none (records_refusal_from (suc k) Q R) [] here.1 in
    let e = same_leaves q r (passes_of k q r here.0) in
    let leaves = rises_leaves n q (none_holds (rises n q) (omega arith)) in
    one_more {r = r} (rw (e.0, e.1, e.2, e.3) leaves) (passes_code k q r here.0)
    (each_right n (suc k) Q R (omega arith) rest.0 (omega arith))

pub accepted_poll :
    (n : ℕ) (R : List Record) (room : ℕ) (t : List ℕ) → poll_answer n R room ≡ accepted t → AcceptedPoll n R t
unfolding poll_answer poll_refusal records_refusal
accepted_poll n R room t h =
    let answer = answered_accepted (poll_refusal n R room) (poll_table n R) t h in
    let sizes = judged_none (poll_sizes_refusal n (length R) room) (records_refusal n R ∷ []) answer.0 in
    let records = judged_none (records_refusal n R) [] sizes.1 in
    let sized = sizes_pass n (length R) room sizes.0 in
    let due = sized.due ∙ sym (quartets_count n) in
    record {
      count = (sized.fewest, sized.most);
      due = due;
      passed = records.0;
      each = each_right n 0 (quartets_of n) R due records.0 (none_unrising n);
      table = answer.1;
    }
