-- `sheets::ReadSheet::judge` meets its contract: what is not refused keeps the rules.
use mathlib.Core.Path.{◌≡◌, sym, ◌∙◌}
use native.Mathlib.Omega.{arith}
use Rattle.refusals.specs.Refusals.{outcome_of, answered, returned}
use Rattle.refusals.proofs.Answers.{call_passed, refused_some}
use Rattle.name_checks.proofs.Tells.{told_hands}
use Rattle.sheet_rules.specs.Operations.{sheet_refusal}
use Rattle.sheets.proofs.Judged.{other_room}
use Rattle.sheets.proofs.ReadSheet.judge.Goals.{After-judge_figures}
use Rattle.sheets.proofs.ReadSheet.judge.Goals as goal

-- what `judge_figures` says, of the figures that the trailer says
told :
    (c : After-judge_figures)
    → (let a = c.args in
    c.judge_figures.result ≡ outcome_of (sheet_refusal c.self.inside.bytes.now a.due a.room))
unfolding sheet_refusal
told c =
    let figures = c.self.invariant in
    rw (figures.0, figures.1) at c.judge_figures.ensures

pub returns-in_err-judge_figures : goal.returns-in_err-judge_figures
returns-in_err-judge_figures c =
    let here = told (goal.at.returns-in_err-judge_figures c).After-judge_figures in
    let arises = refused_some _ _ (sym here ∙ c.in_err-judge_figures.was) in
    rw (← c.self.view_is) (told_hands _ arises c.from_residual.ensures)

pub invariant_of-result : goal.invariant_of-result
invariant_of-result c =
    let here = told (goal.at.invariant_of-result c).After-judge_figures in
    (c.self.invariant, other_room _ _ _ (call_passed _ here c.in_ok-judge_figures.was) 0 0 (omega arith))

pub returns : goal.returns
unfolding answered returned
returns c =
    let here = told (goal.at.returns c).After-judge_figures in
    rw (← c.self.view_is) (rw (call_passed _ here c.in_ok-judge_figures.was))
