-- `looks::look` meets its contract: all is judged, and only then is the total gap worked out.
use mathlib.Core.Path.{◌≡◌, sym, ◌∙◌}
use mathlib.Core.Option.{none}
use Rattle.refusals.proofs.Answers.{call_passed, refused_some}
use Rattle.refusals.proofs.Returned.{returned_refused, returned_given}
use Rattle.grafted_trees.specs.Grafts.{names_edge}
use Rattle.look_answers.specs.Operations.{look_refusal, look_answer}
use Rattle.look_answers.proofs.Accepted.{accepted_look}
use Rattle.looks.proofs.look.Goals.{In_ok-judge}
use Rattle.looks.proofs.look.Goals as goal

pub returns-in_err-judge : goal.returns-in_err-judge
unfolding look_answer
returns-in_err-judge c =
    returned_refused _ _ (refused_some _ _ (sym c.judge.ensures ∙ c.in_err-judge.was)) c.from_residual.ensures

-- nothing is refused
fine :
    (c : In_ok-judge)
    → let a = c.args in
    look_refusal a.kind a.n a.listing.now a.table.now a.new.now (names_edge a.n a.edge) 0 0
    ≡ none
fine c = call_passed _ c.judge.ensures c.in_ok-judge.was

pub total_at-requires : goal.total_at-requires
total_at-requires c =
    let w = accepted_look _ _ _ _ _ _ _ _ (fine c) in
    (w.sizes.count, w.sizes.new_count, w.keeps, w.is_table, w.is_there)

pub returns : goal.returns
unfolding look_answer
returns c = returned_given _ _ (fine (goal.at.returns c).In_ok-judge) c.total_at.ensures
