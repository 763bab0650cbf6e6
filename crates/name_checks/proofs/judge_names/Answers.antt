-- `name_checks::judge_names` meets its contract: the index of no names is made, and takes all of them.
use mathlib.Core.Path.{sym, ◌∙◌}
use Rattle.refusals.specs.Refusals.{answered, returned}
use Rattle.refusals.proofs.Answers.{call_passed, refused_some}
use Rattle.name_checks.proofs.Tells.{told_hands}
use Rattle.name_checks.proofs.judge_names.Goals as goal

pub returns-in_err-take_names : goal.returns-in_err-take_names
returns-in_err-take_names c =
    told_hands _ (refused_some _ _ (sym c.take_names.ensures.answer ∙ c.in_err-take_names.was)) c.from_residual.ensures

pub returns : goal.returns
unfolding answered returned
returns c =
    let passed = call_passed _ c.take_names.ensures.answer c.in_ok-take_names.was in
    rw (passed, c.take_names.ensures.index passed)
