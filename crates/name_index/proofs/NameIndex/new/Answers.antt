-- `name_index::NameIndex::new` meets its contract: arrays of zeros are the index of no names.
use Rattle.name_index.proofs.Indexes.{index_none}
use Rattle.name_index.proofs.NameIndex.new.Goals as goal

pub invariant_of-result : goal.invariant_of-result
invariant_of-result c = (c.requires, index_none _)
