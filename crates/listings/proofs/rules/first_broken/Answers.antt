-- `listings::rules::first_broken` meets its contract: the rules from place p on, after the children before it, find
-- what they find from the start; and a number is marked exactly where it was named before.
use mathlib.Core.Path.{ap, sym}
use native.Mathlib.Omega.{arith}
use Rattle.refusals.specs.Refusals.{outcome_of}
use Rattle.listings.proofs.RulesByPlace.{none_judged, all_judged, no_child, named_before, judged_more}
use Rattle.listings.proofs.rules.first_broken.Goals.{then-c-eq0-via-then-c-eq0, then-c-eq0-via-else-c-eq0+then-n-p}
use Rattle.listings.proofs.rules.first_broken.Goals as goal

pub loop-p-init : goal.loop-p-init
loop-p-init c = none_judged _ _

pub returns-then-c-eq0 : goal.returns-then-c-eq0
unfolding outcome_of
returns-then-c-eq0 c =
    let off =
    no_child c.loop-p.invariant (omega arith) _ c.from-c.ensures (omega arith) (λ z. elim c.then-c-eq0.branch [
      | then-c-eq0-via-then-c-eq0 w ↦ omega arith
      | then-c-eq0-via-else-c-eq0+then-n-p w ↦ omega arith
    ]) in
    ap outcome_of (sym off)

pub returns-then-named-c : goal.returns-then-named-c
unfolding outcome_of
returns-then-named-c c =
    let again =
    named_before c.loop-p.invariant (omega arith) _ c.from-c.ensures (omega arith) (omega arith) (omega arith) in
    ap outcome_of (sym (again c.if-named-c.true))

pub loop-p-preserved : goal.loop-p-preserved
loop-p-preserved c =
    let more =
    judged_more c.loop-p.invariant (omega arith) _ c.from-c.ensures (omega arith) (omega arith) (omega arith) in
    more c.if-named-c.false

pub returns : goal.returns
unfolding outcome_of
returns c = ap outcome_of (sym (all_judged c.loop-p.invariant (omega arith)))
