-- `quartree::quartree_sheet_name` meets its contract: the reply is that to the place that is found.
use Rattle.sheet_names.proofs.NameReplies.{place_replied}
use Rattle.quartree.proofs.quartree_sheet_name.Goals as goal

pub returns : goal.returns
returns c = place_replied _ _ c.reply.ensures c.name_place.ensures
