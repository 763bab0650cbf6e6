-- `quartree::quartree_sheet_table` meets its contract: the reply holds the refusal of the operation that it calls, or
-- the leaf count, and the buffer is that one's.
use mathlib.Core.Path.{ap}
use Prim.Native.Nat.{◌%◌}
use Rattle.replies.specs.Replies.{figure_limit}
use Rattle.replies.proofs.Replies.{replied_with}
use Rattle.quartree.proofs.quartree_sheet_table.Goals as goal

pub returns : goal.returns
returns c =
    let done = c.sheet_table.ensures in
    let count = ap (λ x. x % figure_limit) c.leaf_count_of.ensures.0 in
    record { answer = replied_with _ _ _ c.reply_with.ensures count done.answer; buffer = done.buffer }
