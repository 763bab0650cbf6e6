-- `block_gaps::add_block` meets its contract: the gaps of the rows before row i are added up.
use Rattle.block_gaps.specs.inner.Blocks.{RowsAdded}
use Rattle.block_gaps.proofs.add_block.Given as goal

abbrev pub invariant-loop-i : goal.invariant-loop-i
invariant-loop-i l =
    RowsAdded l.t.n l.t.scale 0 l.classes l.t.table.now l.t.new.now l.x l.y l.i l.as_is
    × RowsAdded l.t.n l.t.scale l.more l.classes l.t.table.now l.t.new.now l.x l.y l.i l.larger
