-- `quartree::quartree_restandardise` meets its contract: reply and buffer are those of the operation that it calls.
use Rattle.record_replies.proofs.Replies.{record_replied}
use Rattle.quartree.proofs.quartree_restandardise.Goals as goal

pub returns : goal.returns
returns c =
    let done = rw c.from.ensures at c.restandardise.ensures in
    record { answer = record_replied _ c.reply.ensures done.answer; buffer = done.buffer }
