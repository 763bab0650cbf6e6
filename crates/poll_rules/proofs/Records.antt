-- Records one by one: how many a poll has, what a record that passes says, and which refusal comes first.
use mathlib.Core.Path.{◌≡◌, refl, ◌∙◌}
use mathlib.Core.Bool.{Bool, true, false, cond}
use mathlib.Core.List.{[], ◌∷◌}
use mathlib.Core.Option.{Option, none, some}
use Prim.Native.Nat.{ℕ, ◌-◌, ◌*◌, ◌≤◌}
use native.Mathlib.Nat.{mul-le-mul}
use native.Mathlib.Omega.{arith}
use borrow.Author.Tests.{leb-true, eqb-true}
use lib.Dec.{leb}
use Rattle.base.proofs.Bools.{and_both}
use Rattle.base.proofs.Lists.{none_not_some}
use Rattle.limits.specs.Limits.{most_polled}
use Rattle.refusals.specs.declared.Refusal.{Refusal}
use Rattle.refusals.specs.declared.Refusal.TheVariants as cause
use Rattle.refusals.specs.Refusals.{judged}
use Rattle.refusals.proofs.Answers.{judged_none, judged_stops, judged_passes, judged_alone}
use Rattle.poll_rules.specs.declared.Record.{Record}
use Rattle.poll_rules.specs.declared.Quartet.{Quartet}
use Rattle.poll_rules.specs.Records.{last_code, records_due, is_of, record_refusal}
use Rattle.poll_rules.specs.Records.{record_leaves_refusal, record_code_refusal}
use Rattle.poll_rules.specs.inner.Quartets.{record_of}

-- a poll has few records, at every step of the product
pub product_two : (n : ℕ) → n ≤ most_polled → n * (n - 1) ≤ 992
product_two n h = mul-le-mul {n₂ = 32} {m₂ = 31} h (omega arith)

pub product_three : (n : ℕ) → n ≤ most_polled → n * (n - 1) * (n - 2) ≤ 29760
product_three n h = mul-le-mul {m₂ = 30} (product_two n h) (omega arith)

pub product_four : (n : ℕ) → n ≤ most_polled → n * (n - 1) * (n - 2) * (n - 3) ≤ 863040
product_four n h = mul-le-mul {m₂ = 29} (product_three n h) (omega arith)

pub due_small : (n : ℕ) → n ≤ most_polled → records_due n ≤ 35960
unfolding records_due
due_small n h = omega (arith, product_four n h)

-- a test that is not refused is passed
pub test_passes : (b : Bool) (x : Refusal) → cond b none (some x) ≡ none → b ≡ true
test_passes true x e = refl
test_passes false x e = absurd (none_not_some _ x refl e)

-- two tests that are not refused, one after the other
judged_two : (o p : Option Refusal) → judged (o ∷ p ∷ []) ≡ none → (o ≡ none) × (p ≡ none)
judged_two o p h = let r = judged_none o (p ∷ []) h in (r.0, (judged_none p [] r.1).0)

-- a record that passes has the leaves of the quartet due
pub passes_of : (k : ℕ) (q : Quartet) (r : Record) → record_refusal k q r ≡ none → is_of q r ≡ true
unfolding record_refusal record_leaves_refusal
passes_of k q r h = let both = judged_two _ _ h in test_passes (is_of q r) (cause.Record k) (cc)

-- and a right code
pub passes_code : (k : ℕ) (q : Quartet) (r : Record) → record_refusal k q r ≡ none → r.code ≤ last_code
unfolding record_refusal record_code_refusal
passes_code k q r h =
    let both = judged_two _ _ h in
    leb-true r.code last_code (test_passes (leb r.code last_code) (cause.PairingCode k) (cc))

-- whose leaves are then its own
pub same_leaves :
    (q : Quartet) (r : Record) → is_of q r ≡ true
    → (r.a ≡ q.a) × (r.b ≡ q.b) × (r.c ≡ q.c) × (r.d ≡ q.d)
unfolding is_of
same_leaves q r h =
    let x = and_both _ _ h in
    let y = and_both _ _ x.1 in
    let z = and_both _ _ y.1 in (
      eqb-true r.a q.a x.0,
      eqb-true r.b q.b y.0,
      eqb-true r.c q.c z.0,
      eqb-true r.d q.d z.1,
    )

-- and it is the record of that quartet
pub record_due : (q : Quartet) (r : Record) → is_of q r ≡ true → record_of q r.code ≡ r
record_due q r h =
    let e = same_leaves q r h in
    rw (← e.0, ← e.1, ← e.2, ← e.3)

-- a record with other leaves is refused with 10, whatever its code; one with the leaves due, by its code
leaves_refused :
    (k : ℕ) (q : Quartet) (r : Record) → is_of q r ≡ false → record_leaves_refusal k q r ≡ some (cause.Record k)
unfolding record_leaves_refusal
leaves_refused k q r h = rw h

leaves_passed : (k : ℕ) (q : Quartet) (r : Record) → is_of q r ≡ true → record_leaves_refusal k q r ≡ none
unfolding record_leaves_refusal
leaves_passed k q r h = rw h

pub leaves_first : (k : ℕ) (q : Quartet) (r : Record) → is_of q r ≡ false → record_refusal k q r ≡ some (cause.Record k)
unfolding record_refusal
leaves_first k q r h = judged_stops _ (leaves_refused k q r h)

pub code_then :
    (k : ℕ) (q : Quartet) (r : Record) → is_of q r ≡ true → record_refusal k q r ≡ record_code_refusal k r
unfolding record_refusal
code_then k q r h = judged_passes _ (leaves_passed k q r h) ∙ judged_alone (record_code_refusal k r)
