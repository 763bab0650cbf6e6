-- `packed_tables::is_packed` meets its contract: the two tests are the definition's.
use mathlib.Core.Path.{sym, ◌∙◌}
use Rattle.packed_tables.specs.Operations.{is_packed}
use Rattle.packed_tables.proofs.is_packed.Goals as goal

pub returns-then-leaf_count : goal.returns-then-leaf_count
unfolding is_packed
returns-then-leaf_count c = rw (sym c.leaf_count.ensures ∙ c.if-leaf_count.true)

pub returns-else-leaf_count : goal.returns-else-leaf_count
unfolding is_packed
returns-else-leaf_count c = c.if-leaf_count.false ∙ rw (sym c.leaf_count.ensures ∙ c.if-leaf_count.false)
