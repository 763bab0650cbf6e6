-- `name_index::NameIndex::starts` meets its contract: the index has where its names start.
use Rattle.name_index.proofs.NameIndex.starts.Goals as goal

pub returns : goal.returns
returns c =
    let x = c.self.invariant.1 in
    rw (← c.self.view_is) (record { few = x.few; ends = x.ends; starts_are = x.starts_are })
