-- `Table::unequal_in_row` meets its contract: what is found from j on is what is found from the
-- start of row i.
use mathlib.Core.Path.{sym, ◌∙◌}
use Prim.Native.Nat.{◌+◌}
use native.Mathlib.Omega.{arith}
use Rattle.table_checks.proofs.Searches.{unequal_here, unequal_on, unequal_after}
use Rattle.table_checks.proofs.cells.Table.unequal_in_row.Goals as goal

pub loop-j-init : goal.loop-j-init
loop-j-init c = unequal_after _ _ c.args.i (c.args.i + 1) c.requires (omega arith)

pub returns-then-cell : goal.returns-then-cell
returns-then-cell c =
    let l = c.loop-j in
    l.invariant
    ∙ unequal_here _ _ c.args.i l.j (omega arith) (omega arith)
    (λ e. c.if-cell.true (c.cell.ensures ∙ e ∙ sym c.cell-in-loop-j.ensures))

pub loop-j-preserved : goal.loop-j-preserved
loop-j-preserved c =
    let l = c.loop-j in
    l.invariant
    ∙ unequal_on _ _ c.args.i l.j (omega arith) (omega arith)
    (sym c.cell.ensures ∙ c.if-cell.false ∙ c.cell-in-loop-j.ensures)
