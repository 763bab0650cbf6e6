-- `quartree::quartree_graft` meets its contract: reply and buffers are those of the operation that it calls.
use Rattle.record_replies.proofs.Replies.{record_replied}
use Rattle.quartree.proofs.quartree_graft.Goals as goal

pub returns : goal.returns
returns c =
    let done = c.graft.ensures in
    record { answer = record_replied _ c.reply.ensures done.answer; listing = done.listing; table = done.table }
