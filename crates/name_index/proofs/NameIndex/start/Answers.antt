-- `name_index::NameIndex::start` meets its contract: the index has where its names start.
use mathlib.Core.Path.{◌∙◌}
use native.Mathlib.Omega.{arith}
use Rattle.name_index.proofs.NameIndex.start.Goals as goal

pub offset_bounds-starts-leaf : goal.offset_bounds-starts-leaf
offset_bounds-starts-leaf c = omega (arith, rw (← c.self.view_is) at c.requires, c.self.invariant.1.few)

pub returns : goal.returns
returns c =
    rw (← c.self.view_is)
    (c.from.ensures ∙ c.self.invariant.1.starts_are _ (rw (← c.self.view_is) at c.requires))
