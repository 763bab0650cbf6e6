-- `name_checks::take_names` meets its contract: no refusal arises from the names passed so far, and they are in the
-- index.
use mathlib.Core.Path.{◌≡◌, refl, sym, ◌∙◌}
use mathlib.Core.Bool.{true, not}
use Prim.Native.Nat.{◌≤◌}
use native.Mathlib.Omega.{arith}
use borrow.Author.Tests.{not-true, not-false}
use lib.ListN.{length}
use Rattle.refusals.specs.Refusals.{outcome_of}
use Rattle.refusals.specs.declared.Refusal.TheVariants.{Name}
use Rattle.refusals.proofs.Answers.{handed_on}
use Rattle.sheet_rules.specs.Sheets.{next_name, name_at}
use Rattle.sheet_rules.specs.Operations.{repeated, good_at}
use Rattle.sheet_rules.proofs.Names.{start_name, good_ends}
use Rattle.sheet_rules.proofs.NameRefusals.{passed_none, bad_here, repeated_here, passed_more, rest_here}
use Rattle.sheet_rules.proofs.NameRefusals.{all_passed}
use Rattle.name_index.specs.inner.Hashes.{hash_of}
use Rattle.name_index.proofs.Hashes.{failed_hash, passed_hash}
use Rattle.name_checks.proofs.Tells.{taken_none}
use Rattle.name_checks.proofs.take_names.Goals.{In_ok-hash, After-add}
use Rattle.name_checks.proofs.take_names.Goals as goal

pub loop-i-init : goal.loop-i-init
loop-i-init c = (passed_none _ _ _, c.requires.2)

pub returns-in_err-hash : goal.returns-in_err-hash
returns-in_err-hash c =
    let none_found = rw c.in_err-hash.was at c.ok_or.ensures.ok_part in
    let refusal : c.in_err-hash.field-0.0 ≡ Name c.loop-i.i =
    (let same = sym c.in_err-hash.was ∙ rw none_found at c.ok_or.ensures.value in cc) in
    let refused = bad_here c.loop-i.invariant.0 c.loop-i-test.true (failed_hash _ c.name_hash.ensures none_found) in
    let told = taken_none refused (handed_on _ c.from_residual.ensures ∙ rw refusal) in
    record { answer = told.0; index = told.1 }

-- the name is good, and this is its hash
good :
    (c : In_ok-hash)
    → (let a = c.args in
    let at = c.loop-i.at in
    (good_at a.sheet.now a.offset at ≡ true) × (c.in_ok-hash.hash ≡ hash_of (name_at a.sheet.now at)))
good c =
    passed_hash _ c.name_hash.ensures (rw c.in_ok-hash.was at c.ok_or.ensures.ok_part)

ends : (c : In_ok-hash) → (let a = c.args in next_name a.sheet.now c.loop-i.at ≤ length a.sheet.now)
ends c = omega (arith, good_ends _ _ _ (good c).0)

pub add-requires : goal.add-requires
add-requires c =
    let l = c.loop-i in
    let here = (goal.at.add-requires c).In_ok-hash in
    let hashed = rw (start_name _ _ l.invariant.0.here) at (good here).1 in
    rw l.invariant.1 (omega arith, l.invariant.0.here, hashed, ends here)

-- what `add` says of the name
new_is : (c : After-add) → (let a = c.args in c.add.result ≡ not (repeated a.sheet.now c.loop-i.i))
new_is c = rw c.loop-i.invariant.1 at c.add.ensures.0

pub returns-then-not-add : goal.returns-then-not-add
returns-then-not-add c =
    let here = goal.at.returns-then-not-add c in
    let equal = not-false _ (sym (new_is here.After-add) ∙ c.if-not-add.true) in
    let told =
    taken_none (repeated_here c.loop-i.invariant.0 (good here.In_ok-hash).0 c.loop-i-test.true equal) refl in
    record { answer = told.0; index = told.1 }

pub next_name-at-requires : goal.next_name-at-requires
next_name-at-requires c = ends (goal.at.next_name-at-requires c).In_ok-hash

pub loop-i-preserved : goal.loop-i-preserved
loop-i-preserved c =
    let here = goal.at.loop-i-preserved c in
    let new = not-true _ (sym (new_is here.After-add) ∙ c.if-not-add.false) in (
      passed_more c.loop-i.invariant.0 (good here.In_ok-hash).0 c.loop-i-test.true new c.next_name-at.ensures,
      rw (c.loop-i.invariant.1, c.if-not-add.false) at c.add.ensures.1,
    )

pub returns-then-at-offset : goal.returns-then-at-offset
returns-then-at-offset c =
    let told = taken_none (rest_here c.loop-i.invariant.0 c.loop-i-test.false c.if-at-offset.true) refl in
    record { answer = told.0; index = told.1 }

pub returns : goal.returns
unfolding outcome_of
returns c =
    let inv = c.loop-i.invariant in
    let passed : c.loop-i.i ≡ c.args.n = omega (arith, inv.0.within) in
    record {
      answer = rw (all_passed inv.0 c.loop-i-test.false c.if-at-offset.false);
      index = λ h. inv.1 ∙ rw passed;
    }
