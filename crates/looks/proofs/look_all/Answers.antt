-- `looks::look_all` meets its contract: nothing is written before all is judged.
use mathlib.Core.Path.{◌≡◌, ap, ◌∙◌}
use mathlib.Core.Bool.{true}
use Prim.Native.Nat.{◌-◌, ◌*◌}
use lib.ListN.{length}
use Rattle.refusals.specs.Refusals.{outcome_of}
use Rattle.refusals.proofs.Answers.{call_passed, call_refused, call_done}
use Rattle.look_answers.specs.Operations.{look_refusal, look_all_answer}
use Rattle.look_answers.proofs.Accepted.{accepted_look}
use Rattle.looks.proofs.AllEdges.{all_refused, filled_written}
use Rattle.looks.proofs.look_all.Goals.{After-judge}
use Rattle.looks.proofs.look_all.Goals as goal

-- what was judged
judged :
    (c : After-judge)
    → let a = c.args in
    c.judge.result
    ≡ outcome_of
    (look_refusal a.kind a.n a.listing.now a.table.now a.new.now true (2 * a.n - 3)
    (length a.out.now))
judged c = c.judge.ensures ∙ ap outcome_of (all_refused _ _ _ _ _ _ _ c.edge_count.ensures)

pub returns-in_err-judge : goal.returns-in_err-judge
unfolding look_all_answer
returns-in_err-judge c =
    let told = judged (goal.at.returns-in_err-judge c).After-judge in
    let said = call_refused _ told _ _ c.in_err-judge.was c.from_residual.ensures in
    record { answer = said.0; buffer = said.1 }

pub write_all-requires : goal.write_all-requires
write_all-requires c =
    let passed = call_passed _ (judged (goal.at.write_all-requires c).After-judge) c.in_ok-judge.was in
    let w = accepted_look _ _ _ _ _ _ _ _ passed in
    (w.sizes.count, w.sizes.new_count, w.keeps, w.is_own, w.is_table, w.sizes.enough)

pub returns : goal.returns
unfolding look_all_answer
returns c =
    let said =
    call_done _ (judged (goal.at.returns c).After-judge) _ _ c.in_ok-judge.was
    (c.write_all.ensures ∙ filled_written _ _ _) in
    record { answer = said.0; buffer = said.1 }
