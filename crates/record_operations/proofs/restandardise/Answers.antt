-- `record_operations::restandardise` meets its contract: `standardise` decides and writes, and the origin is
-- passed on.
use Rattle.tree_records.proofs.Records.{mark_told}
use Rattle.record_operations.specs.Operations.{restandardise_record}
use Rattle.record_operations.proofs.restandardise.Goals as goal

pub returns : goal.returns
unfolding restandardise_record
returns c =
    let done = c.standardise.ensures in
    record { answer = mark_told _ _ _ c.mark.ensures done.answer; buffer = done.buffer }
