-- `Table::filled` meets its contract: what is found from i on is what is found from the start.
use mathlib.Core.Path.{sym, ◌∙◌}
use native.Mathlib.Omega.{arith}
use Rattle.table_checks.proofs.Searches.{filled_start, filled_here, filled_on, filled_end}
use Rattle.table_checks.proofs.cells.Table.filled.Goals as goal

pub loop-i-init : goal.loop-i-init
loop-i-init c = sym (filled_start _ _)

pub returns-then-cell-ne0 : goal.returns-then-cell-ne0
returns-then-cell-ne0 c =
    let l = c.loop-i in
    l.invariant ∙ filled_here _ _ l.i (omega arith) (λ e. c.if-cell-ne0.true (c.cell.ensures ∙ e))

pub loop-i-preserved : goal.loop-i-preserved
loop-i-preserved c =
    let l = c.loop-i in
    l.invariant ∙ filled_on _ _ l.i (omega arith) (sym c.cell.ensures ∙ c.if-cell-ne0.false)

pub returns : goal.returns
returns c = c.loop-i.invariant ∙ filled_end _ _ c.loop-i.i (omega arith)
