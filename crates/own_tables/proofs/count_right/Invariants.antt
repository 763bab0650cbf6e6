-- `own_tables::count_right` meets its contract: the right cells before column j are counted.
use Rattle.own_tables.specs.inner.Rows.{RightCounted}
use Rattle.own_tables.proofs.count_right.Given as goal

abbrev pub invariant-loop-j : goal.invariant-loop-j
invariant-loop-j l = RightCounted l.row.order.now l.row.place l.cells l.j l.right
