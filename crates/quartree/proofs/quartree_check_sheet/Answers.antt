-- `quartree::quartree_check_sheet` meets its contract: the reply holds the refusal that is judged, or the leaf count.
use mathlib.Core.Path.{ap}
use Prim.Native.Nat.{◌%◌}
use Rattle.replies.specs.Replies.{figure_limit}
use Rattle.replies.proofs.Replies.{replied_with}
use Rattle.quartree.proofs.quartree_check_sheet.Goals as goal

pub returns : goal.returns
returns c =
    let count = ap (λ x. x % figure_limit) c.leaf_count_of.ensures.0 in
    replied_with _ _ _ c.reply_with.ensures count c.check_sheet.ensures
