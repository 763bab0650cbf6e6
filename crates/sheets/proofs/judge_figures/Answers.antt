-- `sheets::judge_figures` meets its contract: the sizes are judged first, and then the names decide.
use mathlib.Core.Path.{◌∙◌}
use Rattle.refusals.specs.Refusals.{outcome_of}
use Rattle.refusals.proofs.Answers.{handed_on}
use Rattle.sheets.proofs.Sizes.{names_decide, names_within}
use Rattle.sheets.proofs.judge_figures.Goals as goal

pub returns-in_err-judge_sizes : goal.returns-in_err-judge_sizes
unfolding outcome_of
returns-in_err-judge_sizes c = handed_on _ c.from_residual.ensures ∙ rw c.in_err-judge_sizes.ensures

pub check_names-requires : goal.check_names-requires
check_names-requires c = names_within c.in_ok-judge_sizes.ensures

pub returns : goal.returns
returns c = rw (names_decide c.in_ok-judge_sizes.ensures) c.check_names.ensures
