-- `table_checks::judge_for_rows` meets its contract: what is worked out is due where the leaf count is right.
use mathlib.Core.Path.{ap, ◌∙◌}
use Rattle.refusals.specs.Refusals.{outcome_of}
use Rattle.table_checks.proofs.TableRefusal.{table_as_due}
use Rattle.table_checks.proofs.judge_for_rows.Goals as goal

pub returns : goal.returns
returns c = c.judge.ensures ∙ ap outcome_of (table_as_due _ _ _ _ _ _ c.listing_numbers.ensures)
