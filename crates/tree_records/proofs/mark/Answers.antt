-- `tree_records::mark` meets its contract: the refusal decides, or the origin is told.
use mathlib.Core.Path.{◌∙◌}
use Rattle.refusals.proofs.Answers.{handed_on}
use Rattle.tree_records.proofs.mark.Goals as goal

pub returns-in_err-answer : goal.returns-in_err-answer
returns-in_err-answer c = handed_on _ c.from_residual.ensures ∙ rw c.in_err-answer.was

pub returns : goal.returns
returns c = rw c.in_ok-answer.was
