-- `own_tables::is_own_table` meets its contract: the rows of the leaves at the places before p are the tree's.
use mathlib.Core.Path.{◌≡◌}
use Rattle.least_depths.specs.inner.Rows.{RowsHold}
use Rattle.least_depths.proofs.RowCounts.{cell_at}
use Rattle.own_tables.proofs.is_own_table.Given as goal

abbrev pub invariant-loop-p : goal.invariant-loop-p
invariant-loop-p l =
    let order = l.row.order.now in
    (order.n ≡ l.n) × (order.listing.now ≡ l.listing)
    × RowsHold order.n order.leaves (cell_at order.n order.listing.now) l.cells l.p
