-- `name_index::NameIndex::name` meets its contract: the index has where its names start.
use mathlib.Core.Path.{◌∙◌}
use Rattle.name_index.proofs.Indexes.{index_place, index_name}
use Rattle.name_index.proofs.NameIndex.name.Goals as goal

pub name_at-requires : goal.name_at-requires
name_at-requires c = index_place c.self.invariant.1 (rw (← c.self.view_is) at c.requires) c.from.ensures

pub returns : goal.returns
returns c =
    rw (← c.self.view_is)
    (c.name_at.ensures ∙ index_name c.self.invariant.1 (rw (← c.self.view_is) at c.requires) c.from.ensures)
