-- `tree_tables::write_row` meets its contract: j cells of the row are written, and no other row.
use Rattle.tree_tables.specs.inner.Rows.{RowPut}
use Rattle.tree_tables.proofs.write_row.Given as goal

abbrev pub invariant-loop-j : goal.invariant-loop-j
invariant-loop-j l = RowPut l.row.order.now l.row.place l.initial.out l.out l.j
