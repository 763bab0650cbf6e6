-- `poll_sums::writing::write_table` meets its contract: each turn writes the next cell of the table.
use Prim.Native.Nat.{◌*◌}
use native.Mathlib.Omega.{arith}
use Rattle.base.proofs.Lists.{row_of, column_of, place}
use Rattle.base.proofs.Filling.{rows_none, rows_room, cell_more}
use Rattle.poll_sums.proofs.writing.write_table.Invariants.{table_cell}
use Rattle.poll_sums.proofs.writing.write_table.Goals as goal

pub loop-row-init : goal.loop-row-init
loop-row-init c = rows_none _ _ c.args.n

pub loop-column-preserved : goal.loop-column-preserved
loop-column-preserved c =
    let n = c.args.n in
    let i = c.loop-row.row in
    let j = c.loop-column.column in
    let f = table_cell n c.args.sums.now in
    let same = rows_room f _ n i (omega (arith, c.loop-row-test.true)) c.requires.1 c.loop-row.invariant in
    let inside = place n i j c.loop-row-test.true c.loop-column-test.true in
    cell_more f _ (i * n) j c.loop-row.invariant (omega (arith, same, inside, c.requires.1)) c.loop-column.invariant
    (rw (row_of n i j c.loop-column-test.true, column_of n i j c.loop-column-test.true) c.sum_at.ensures)
