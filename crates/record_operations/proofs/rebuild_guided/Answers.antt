-- `record_operations::rebuild_guided` meets its contract: the guided rebuild decides and writes, and what it
-- accepts is marked rebuilt.
use Rattle.tree_records.specs.declared.Origin.TheVariants.{Rebuilt}
use Rattle.tree_records.specs.Records.{marked, tree_outcome}
use Rattle.tree_records.proofs.Records.{mark_told}
use Rattle.rebuild_answers.proofs.Promises.{guided_gives}
use Rattle.record_operations.specs.Operations.{guided_record}
use Rattle.record_operations.proofs.rebuild_guided.Goals as goal

pub returns : goal.returns
unfolding guided_record
returns c =
    let done = c.rebuild_guided.ensures in
    let t =
    guided_gives _ _ _ _ _ (λ a. tree_outcome (marked _ Rebuilt a))
    (mark_told _ _ _ c.mark.ensures done.answer, done.buffer) in
    record { answer = t.0; buffer = t.1.0; meaning = t.1.1 }
