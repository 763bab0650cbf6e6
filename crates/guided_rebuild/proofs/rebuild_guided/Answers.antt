-- `guided_rebuild::rebuild_guided` meets its contract: the number of proposals is judged and then the table, and
-- `guided_checked` follows the proposals.
use mathlib.Core.Path.{◌≡◌, ap, ◌∙◌}
use lib.ListN.{length}
use Rattle.refusals.specs.Refusals.{outcome_of, outcome}
use Rattle.refusals.proofs.Answers.{go_stops, go_passes, call_passed, handed_on, unless_told, unless_none}
use Rattle.checks.proofs.Sizes.{input_as_due}
use Rattle.table_checks.proofs.TableRefusal.{accepted_table}
use Rattle.rebuild_answers.specs.Operations.{guided_refusal, guided_answer}
use Rattle.rebuild_answers.proofs.RebuildRefusals.{guided_sizes}
use Rattle.rebuild_answers.proofs.Promises.{guided_gives}
use Rattle.guided_rebuild.proofs.rebuild_guided.Goals.{After-judge_for_rows}
use Rattle.guided_rebuild.proofs.rebuild_guided.Goals as goal

pub returns-in_err-judge_input : goal.returns-in_err-judge_input
unfolding guided_answer guided_refusal
returns-in_err-judge_input c =
    let p = c.from_residual.ensures in
    let sized = c.judge_input.ensures ∙ ap outcome_of (input_as_due _ _ _ _ _ c.numbers_due.ensures) in
    let stopped = go_stops _ sized _ c.in_err-judge_input.was p in
    let t = guided_gives _ _ _ _ _ outcome (unless_told _ _ c.args.out.now _ stopped (handed_on _ p) p) in
    record { answer = t.0; buffer = t.1.0; meaning = t.1.1 }

-- what was judged of the sizes and of the table
judged :
    (c : After-judge_for_rows)
    → let a = c.args in
    c.judge_for_rows.result
    ≡ outcome_of (guided_refusal a.kind a.n a.table.now a.merges.now (length a.out.now))
unfolding guided_refusal
judged c =
    let sized = c.judge_input.ensures ∙ ap outcome_of (input_as_due _ _ _ _ _ c.numbers_due.ensures) in
    go_passes _ sized _ c.in_ok-judge_input.was c.judge_for_rows.ensures

pub returns-in_err-judge_for_rows : goal.returns-in_err-judge_for_rows
unfolding guided_answer
returns-in_err-judge_for_rows c =
    let p = c.from_residual-in_err-judge_for_rows.ensures in
    let told = judged (goal.at.returns-in_err-judge_for_rows c).After-judge_for_rows in
    let stopped = unless_told _ _ c.args.out.now _ told c.in_err-judge_for_rows.was p in
    let t = guided_gives _ _ _ _ _ outcome stopped in
    record { answer = t.0; buffer = t.1.0; meaning = t.1.1 }

pub guided_checked-requires : goal.guided_checked-requires
guided_checked-requires c =
    let told = judged (goal.at.guided_checked-requires c).After-judge_for_rows in
    let sizes = guided_sizes _ _ _ _ _ (call_passed _ told c.in_ok-judge_for_rows.was) in
    let a = accepted_table _ _ _ _ _ sizes.1 in
    (a.count, a.is_table, a.room_enough, sizes.0)

pub returns : goal.returns
unfolding guided_answer
returns c =
    let told = judged (goal.at.returns c).After-judge_for_rows in
    let done = c.guided_checked.ensures in
    let t =
    guided_gives _ _ _ _ _ outcome
    (unless_none _ _ _ _ _ (call_passed _ told c.in_ok-judge_for_rows.was) (done.answer, done.buffer)) in
    record { answer = t.0; buffer = t.1.0; meaning = t.1.1 }
