-- `record_operations::lend` meets its contract: what the check says is told, and what passes it is marked listed.
use mathlib.Core.Path.{sym, ◌∙◌}
use Rattle.refusals.proofs.Answers.{outcome_answered}
use Rattle.tree_records.proofs.Records.{mark_told}
use Rattle.listings.specs.Operations.{check_answer}
use Rattle.record_operations.specs.Operations.{lent_record}
use Rattle.record_operations.proofs.lend.Goals as goal

pub returns : goal.returns
unfolding lent_record check_answer
returns c =
    let judged = c.check.ensures ∙ outcome_answered _ _ in
    mark_told _ _ _ c.mark.ensures (judged ∙ sym (outcome_answered _ _))
