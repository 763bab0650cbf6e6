-- `quartree::quartree_check` meets its contract: the reply is that to the answer of the operation that it calls.
use Rattle.replies.proofs.Replies.{replied}
use Rattle.quartree.proofs.quartree_check.Goals as goal

pub returns : goal.returns
returns c = replied _ c.reply.ensures c.check.ensures
