-- `tree_tables::write_row` meets its contract: j cells of the row are written, and no other row.
use Rattle.least_depths.proofs.Rows.{cell_place}
use Rattle.tree_tables.proofs.Rows.{row_more}
use Rattle.tree_tables.proofs.write_row.Goals as goal

pub loop-j-preserved : goal.loop-j-preserved
loop-j-preserved c =
    let row = c.args.row.now in
    let o = row.order.now in
    let inside = c.loop-j-test.true in
    let here = cell_place o.ordered.few (o.ordered.leaf_below row.place row.found.place) inside c.requires in
    rw c.leaf.ensures.0 (row_more c.loop-j.invariant inside here.1 c.count_at.ensures)
