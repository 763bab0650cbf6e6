-- `own_rebuild::rebuild` meets its contract: what `judge` accepts is a table, and `rebuild_checked` rebuilds it.
use mathlib.Core.Path.{◌≡◌}
use mathlib.Core.Option.{none}
use Prim.Native.Nat.{◌-◌, ◌*◌}
use lib.ListN.{length}
use Rattle.refusals.specs.Refusals.{outcome}
use Rattle.refusals.proofs.Answers.{call_passed, unless_told, unless_none}
use Rattle.table_checks.specs.Operations.{table_refusal}
use Rattle.table_checks.proofs.TableRefusal.{accepted_table}
use Rattle.rebuild_answers.specs.Operations.{rebuild_answer}
use Rattle.rebuild_answers.proofs.Promises.{rebuild_gives}
use Rattle.own_rebuild.proofs.rebuild.Goals.{In_ok-judge_for_rows}
use Rattle.own_rebuild.proofs.rebuild.Goals as goal

pub returns-in_err-judge_for_rows : goal.returns-in_err-judge_for_rows
unfolding rebuild_answer
returns-in_err-judge_for_rows c =
    let judged = c.judge_for_rows.ensures in
    let told = unless_told _ _ c.args.out.now _ judged c.in_err-judge_for_rows.was c.from_residual.ensures in
    let t = rebuild_gives _ _ _ _ outcome told in
    record { answer = t.0; buffer = t.1.0; meaning = t.1.1 }

-- nothing was refused
passed :
    (c : In_ok-judge_for_rows)
    → let a = c.args in
    table_refusal a.kind a.n a.table.now (2 * (a.n - 2)) (length a.out.now) ≡ none
passed c = call_passed _ c.judge_for_rows.ensures c.in_ok-judge_for_rows.was

pub rebuild_checked-requires : goal.rebuild_checked-requires
rebuild_checked-requires c =
    let a = accepted_table _ _ _ _ _ (passed (goal.at.rebuild_checked-requires c).In_ok-judge_for_rows) in
    (a.count, a.is_table, a.room_enough)

pub returns : goal.returns
unfolding rebuild_answer
returns c =
    let answered = c.rebuild_checked.ensures in
    let t =
    rebuild_gives _ _ _ _ outcome
    (unless_none _ _ _ _ _ (passed (goal.at.returns c).In_ok-judge_for_rows) (answered.answer, answered.buffer)) in
    record { answer = t.0; buffer = t.1.0; meaning = t.1.1 }
