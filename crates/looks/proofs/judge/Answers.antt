-- `looks::judge` meets its contract: the sizes stop it, or what is judged of a graft does, or the cells of the new
-- table decide.
use mathlib.Core.Path.{◌≡◌}
use mathlib.Core.Option.{none}
use native.Mathlib.Omega.{arith}
use lib.ListN.{length}
use Rattle.refusals.proofs.Answers.{call_passed}
use Rattle.looks.specs.inner.Refusals.{look_sizes_refusal}
use Rattle.looks.proofs.Refusals.{sizes_stop, right_sizes, graft_stops, cells_decide}
use Rattle.looks.proofs.judge.Goals.{In_ok-judge_sizes}
use Rattle.looks.proofs.judge.Goals as goal

pub returns-in_err-judge_sizes : goal.returns-in_err-judge_sizes
returns-in_err-judge_sizes c =
    sizes_stop _ _ _ _ _ _ _ _ c.judge_sizes.ensures c.in_err-judge_sizes.was c.from_residual.ensures

-- no size is refused
fine :
    (c : In_ok-judge_sizes)
    → let a = c.args in
    look_sizes_refusal a.kind a.n (length a.listing.now) (length a.table.now) (length a.new.now)
    a.due a.room
    ≡ none
fine c = call_passed _ c.judge_sizes.ensures c.in_ok-judge_sizes.was

pub returns-in_err-judge : goal.returns-in_err-judge
returns-in_err-judge c =
    graft_stops _ _ _ _ _ _ _ _ (fine (goal.at.returns-in_err-judge c).In_ok-judge_sizes) c.judge.ensures
    c.in_err-judge.was c.from_residual-in_err-judge.ensures

pub overflow_add-n : goal.overflow_add-n
overflow_add-n c =
    let a = c.args in
    let right = right_sizes a.kind a.n a.listing.now a.table.now a.new.now a.edge a.due
    a.room (fine (goal.at.overflow_add-n c).In_ok-judge_sizes) in
    omega (arith, right.count)

pub returns : goal.returns
returns c =
    cells_decide _ _ _ _ _ _ _ _ (fine (goal.at.returns c).In_ok-judge_sizes) c.judge.ensures c.in_ok-judge.was
    c.judge-2.ensures
