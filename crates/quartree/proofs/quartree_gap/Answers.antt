-- `quartree::quartree_gap` meets its contract: reply and buffer are those of the operation that it calls.
use Rattle.replies.proofs.Replies.{replied}
use Rattle.quartree.proofs.quartree_gap.Goals as goal

pub returns : goal.returns
returns c =
    let done = rw c.from.ensures at c.gap.ensures in
    record { answer = replied _ c.reply.ensures done.answer; buffer = done.buffer }
