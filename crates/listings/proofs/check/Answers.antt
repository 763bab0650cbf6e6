-- `listings::check` meets its contract: it judges the listing alone, and the outcome says no more than the refusal.
use mathlib.Core.Path.{sym, ◌∙◌}
use Rattle.refusals.proofs.Answers.{outcome_answered}
use Rattle.listings.specs.Operations.{check_answer}
use Rattle.listings.proofs.check.Goals as goal

pub returns : goal.returns
unfolding check_answer
returns c = c.judge.ensures ∙ sym (outcome_answered _ _)
