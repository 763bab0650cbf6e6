-- `quartree::quartree_rebuild_guided` meets its contract: reply, buffer and meaning are those of the operation that it
-- calls.
use Rattle.tree_records.specs.declared.Origin.TheVariants.{Rebuilt}
use Rattle.tree_records.specs.Records.{marked}
use Rattle.rebuild_answers.proofs.Promises.{guided_gives}
use Rattle.record_operations.specs.Operations.{guided_record}
use Rattle.record_replies.specs.Replies.{record_reply}
use Rattle.record_replies.proofs.Replies.{record_replied}
use Rattle.quartree.proofs.quartree_rebuild_guided.Goals as goal

pub returns : goal.returns
unfolding guided_record
returns c =
    let done = rw c.from.ensures at c.rebuild_guided.ensures in
    let t =
    guided_gives _ _ _ _ _ (λ a. record_reply (marked _ Rebuilt a))
    (record_replied _ c.reply.ensures done.answer, done.buffer) in
    record { answer = t.0; buffer = t.1.0; meaning = t.1.1 }
