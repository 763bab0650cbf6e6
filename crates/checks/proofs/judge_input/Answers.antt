-- `checks::judge_input` meets its contract: the tests stand in the order in which the refusals are judged.
use mathlib.Core.Path.{ap, sym, ◌∙◌}
use Rattle.limits.specs.Limits.{IsCountOf}
use Rattle.refusals.specs.Refusals.{outcome_of}
use Rattle.refusals.proofs.Answers.{judged_stops, judged_passes}
use Rattle.checks.specs.Sizes.{input_refusal}
use Rattle.checks.proofs.Sizes.{is_count, count_stops, count_passes, length_stops, input_passes}
use Rattle.checks.proofs.judge_input.Goals.{Else-not-leaf_count_of}
use Rattle.checks.proofs.judge_input.Goals as goal

-- the leaf count passed its test
count : (c : Else-not-leaf_count_of) → IsCountOf c.args.kind c.args.n
count c =
    is_count c.args.kind _ (sym c.leaf_count_of.ensures ∙ c.if-not-leaf_count_of.false)

pub returns-then-not-leaf_count_of : goal.returns-then-not-leaf_count_of
unfolding input_refusal outcome_of
returns-then-not-leaf_count_of c =
    let off = sym c.leaf_count_of.ensures ∙ c.if-not-leaf_count_of.true in
    ap outcome_of (sym (judged_stops _ (count_stops c.args.kind _ off)))

pub returns-then-lent-due : goal.returns-then-lent-due
unfolding input_refusal outcome_of
returns-then-lent-due c =
    let passed =
    judged_passes _ (count_passes c.args.kind _ (count (goal.at.returns-then-lent-due c).Else-not-leaf_count_of)) in
    ap outcome_of (sym (passed ∙ judged_stops _ (length_stops _ _ c.if-lent-due.true)))

pub returns : goal.returns
unfolding outcome_of
returns c =
    ap outcome_of (sym (input_passes c.args.kind _ _ _ (count (goal.at.returns c).Else-not-leaf_count_of)
    c.if-lent-due.false))
