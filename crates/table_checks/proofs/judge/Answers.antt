-- `table_checks::judge` meets its contract: the sizes go first; where they are right the cells decide.
use Rattle.refusals.proofs.Answers.{go_stops, go_passes, call_passed}
use Rattle.table_checks.specs.Operations.{table_refusal}
use Rattle.table_checks.proofs.TableRefusal.{right_square}
use Rattle.table_checks.proofs.judge.Goals as goal

pub returns-in_err-judge_table_sizes : goal.returns-in_err-judge_table_sizes
unfolding table_refusal
returns-in_err-judge_table_sizes c =
    go_stops _ c.judge_table_sizes.ensures _ c.in_err-judge_table_sizes.was
    c.from_residual.ensures

pub invariant_of-wrong : goal.invariant_of-wrong
invariant_of-wrong c =
    let passed = call_passed _ c.judge_table_sizes.ensures c.in_ok-judge_table_sizes.was in
    record { square = right_square _ _ _ _ _ passed }

pub returns : goal.returns
unfolding table_refusal
returns c =
    go_passes _ c.judge_table_sizes.ensures _ c.in_ok-judge_table_sizes.was c.wrong.ensures
