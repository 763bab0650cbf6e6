-- `quartree::quartree_set_equal` meets its contract: the reply is that to the answer of the operation that it calls.
use Rattle.replies.proofs.Replies.{verdict_replied}
use Rattle.quartree.proofs.quartree_set_equal.Goals as goal

pub returns : goal.returns
returns c = verdict_replied _ c.reply.ensures c.equal.ensures
