-- `tree_tables::fill_table` meets its contract: the rows of the leaves at the places before p are written.
use mathlib.Core.Path.{◌∙◌}
use native.Mathlib.Omega.{arith}
use Rattle.trees.specs.Tables.{table_of}
use Rattle.tree_tables.proofs.Rows.{rows_begun, row_put, rows_whole}
use Rattle.tree_tables.proofs.fill_table.Goals as goal

pub loop-p-init : goal.loop-p-init
loop-p-init c =
    let made = c.fill.ensures in rw c.first-row.ensures.0 (made.0, made.1 ∙ c.new-order.ensures.1, rows_begun _)

pub write_row-requires : goal.write_row-requires
write_row-requires c =
    let i = c.loop-p.invariant in
    rw (c.seek.ensures.0, i.0, i.2.same_length) c.requires.2

pub loop-p-preserved : goal.loop-p-preserved
loop-p-preserved c =
    let i = c.loop-p.invariant in
    let order = c.loop-p.row.order.now in
    let inside = c.loop-p-test.true in
    rw c.seek.ensures.0 (
      i.0,
      i.1,
      row_put order (rw i.0 inside) i.2 (rw (c.seek.ensures.0, c.seek.ensures.1) at
          c.write_row.ensures),
    )

pub returns : goal.returns
unfolding table_of
returns c =
    let i = c.loop-p.invariant in
    rw (i.0, i.1) at (rows_whole c.loop-p.row.order.now (rw i.0 c.requires.2) (rw i.0 (omega arith)) i.2)
