-- `gaps::subtract_row` meets its contract: the rows before the row and j gaps of it are written.
use Rattle.leaf_orders.specs.inner.LeafOrders.{at}
use Rattle.least_depths.specs.inner.Rows.{RowWritten}
use Rattle.gaps.specs.inner.Rows.{gap_of}
use Rattle.gaps.proofs.subtract_row.Given as goal

abbrev pub invariant-loop-j : goal.invariant-loop-j
invariant-loop-j g l =
    let o = l.row.order.now in
    RowWritten o.n (at o.leaves l.row.place) (gap_of g.row.SCALE o l.row.place l.cells) l.initial.out l.out l.j
