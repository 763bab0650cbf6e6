-- `quartree::quartree_look` meets its contract: the reply is that to the answer of the operation that it calls.
use Rattle.replies.proofs.Replies.{number_replied}
use Rattle.quartree.proofs.quartree_look.Goals as goal

pub returns : goal.returns
returns c =
    number_replied _ c.reply.ensures
    (rw c.from.ensures at c.look.ensures)
