-- `sheets::check_sheet` meets its contract: where nothing is written there is room.
use mathlib.Core.Path.{refl, sym, ◌∙◌}
use Rattle.refusals.specs.Refusals.{outcome_of}
use Rattle.refusals.proofs.Answers.{outcome_answered}
use Rattle.sheet_rules.specs.Operations.{check_sheet_answer}
use Rattle.name_checks.proofs.Tells.{tells_none, tells_outcome}
use Rattle.sheets.proofs.check_sheet.Goals as goal

pub returns-in_err-judge : goal.returns-in_err-judge
unfolding check_sheet_answer
returns-in_err-judge c =
    let told = rw c.new.ensures at c.judge.ensures in
    tells_outcome _ _ told c.in_err-judge.was c.from_residual.ensures ∙ sym (outcome_answered _ _)

pub returns : goal.returns
unfolding check_sheet_answer outcome_of
returns c =
    let told = rw c.new.ensures at c.judge.ensures in
    sym (outcome_answered _ _ ∙ rw (tells_none _ _ told c.in_ok-judge.was) refl)
