-- `quartree::quartree_rebuild_sheet` meets its contract: it says the number of the operation's answer, and buffer and
-- meaning are that one's.
use Rattle.sheet_trees.proofs.Promises.{sheet_bytes_gives}
use Rattle.replies.specs.Replies.{number_alone}
use Rattle.replies.proofs.Replies.{said_alone}
use Rattle.quartree.proofs.quartree_rebuild_sheet.Goals as goal

pub returns : goal.returns
returns c =
    let done = c.listing_bytes_of.ensures in
    let t =
    sheet_bytes_gives _ _ number_alone (said_alone _ c.answer_number.ensures done.answer, done.buffer) in
    record { answer = t.0; buffer = t.1.0; meaning = t.1.1 }
