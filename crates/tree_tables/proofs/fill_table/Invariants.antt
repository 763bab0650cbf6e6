-- `tree_tables::fill_table` meets its contract: the rows of the leaves at the places before p are written.
use mathlib.Core.Path.{◌≡◌}
use Rattle.tree_tables.proofs.Rows.{RowsPut}
use Rattle.tree_tables.proofs.fill_table.Given as goal

abbrev pub invariant-loop-p : goal.invariant-loop-p
invariant-loop-p l =
    let order = l.row.order.now in
    (order.n ≡ l.n) × (order.listing.now ≡ l.listing) × RowsPut order l.initial.out l.out l.p
