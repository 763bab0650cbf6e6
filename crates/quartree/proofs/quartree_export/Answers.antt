-- `quartree::quartree_export` meets its contract: the reply holds the refusal of the operation that it calls, or the
-- text's length, and the buffer is that one's.
use Rattle.quartree.proofs.TextReplies.{length_replied}
use Rattle.quartree.proofs.quartree_export.Goals as goal

pub returns : goal.returns
returns c =
    let done = c.export.ensures in
    record { answer = length_replied _ done.answer c.reply.ensures; buffer = done.buffer }
