-- `gaps::judge_gap` meets its contract: the sizes stop it, or the listing does, or the cells decide.
use mathlib.Core.Path.{◌≡◌, ap, ◌∙◌}
use mathlib.Core.Option.{none}
use Prim.Native.Nat.{◌*◌}
use borrow.Author.Rules.{rules}
use lib.ListN.{length}
use Rattle.limits.proofs.TableKinds.{leaf_count_of}
use Rattle.refusals.specs.Refusals.{outcome_of}
use Rattle.refusals.proofs.Answers.{call_passed}
use Rattle.checks.specs.Sizes.{input_refusal}
use Rattle.checks.proofs.Sizes.{input_due}
use Rattle.gaps.proofs.GapAnswers.{sizes_stop, listing_stops, cells_decide}
use Rattle.gaps.proofs.judge_gap.Goals.{After-judge_input, In_ok-judge_input}
use Rattle.gaps.proofs.judge_gap.Goals as goal

-- what was judged of the sizes
sizes :
    (c : After-judge_input)
    → let a = c.args in
    c.judge_input.result ≡ outcome_of (input_refusal a.kind a.n (a.n * a.n) (length a.cells.now))
sizes c =
    let a = c.args in
    c.judge_input.ensures
    ∙ ap outcome_of (input_due _ _ _ _ _ (λ h. c.table_cells.ensures (leaf_count_of a.kind a.n h)))

pub returns-in_err-judge_input : goal.returns-in_err-judge_input
returns-in_err-judge_input c =
    sizes_stop _ _ _ _ _ (sizes (goal.at.returns-in_err-judge_input c).After-judge_input) c.in_err-judge_input.was
    c.from_residual.ensures

-- nothing of them is refused
fine :
    (c : In_ok-judge_input)
    → let a = c.args in
    input_refusal a.kind a.n (a.n * a.n) (length a.cells.now) ≡ none
fine c = call_passed _ (sizes (goal.at.judge_for_cells-requires c).After-judge_input) c.in_ok-judge_input.was

pub returns-in_err-judge_for_cells : goal.returns-in_err-judge_for_cells
returns-in_err-judge_for_cells c =
    listing_stops _ _ _ _ _ (fine (goal.at.returns-in_err-judge_for_cells c).In_ok-judge_input)
    c.judge_for_cells.ensures c.in_err-judge_for_cells.was c.from_residual-in_err-judge_for_cells.ensures

pub returns : goal.returns
returns c =
    cells_decide _ _ _ _ _ (fine (goal.at.returns c).In_ok-judge_input) c.judge_for_cells.ensures
    c.in_ok-judge_for_cells.was c.judge.ensures

pub judge_for_cells-requires : goal.judge_for_cells-requires
judge_for_cells-requires c = search rules
