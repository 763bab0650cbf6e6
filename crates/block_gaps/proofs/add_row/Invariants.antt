-- `block_gaps::add_row` meets its contract: the gaps before column j are added up, as they are and with larger cells.
use Rattle.block_gaps.specs.inner.Blocks.{RowAdded}
use Rattle.block_gaps.proofs.add_row.Given as goal

abbrev pub invariant-loop-j : goal.invariant-loop-j
invariant-loop-j l =
    RowAdded l.t.n l.i l.scale 0 l.classes l.t.table.now l.t.new.now l.y l.j l.as_is
    × RowAdded l.t.n l.i l.scale l.more l.classes l.t.table.now l.t.new.now l.y l.j l.larger
