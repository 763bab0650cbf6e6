-- `record_operations::rebuild_sheet` meets its contract: the sheet's rebuild decides and writes, and what it
-- accepts is marked rebuilt.
use Rattle.tree_records.proofs.Records.{mark_told}
use Rattle.record_operations.specs.Operations.{sheet_record}
use Rattle.record_operations.proofs.rebuild_sheet.Goals as goal

pub returns : goal.returns
unfolding sheet_record
returns c =
    let done = c.listing_of.ensures in
    record { answer = mark_told _ _ _ c.mark.ensures done.answer; buffer = done.buffer }
