-- `Table::cell` meets its contract: three cases, above the diagonal, below it and on it.
use mathlib.Core.Path.{◌≡◌, sym, ◌∙◌}
use native.Mathlib.Omega.{arith}
use Rattle.packed_tables.proofs.PackedIsTable.{on_diagonal, above_diagonal, below_diagonal}
use Rattle.packed_tables.proofs.reading.Table.cell.Goals as goal

pub returns-then-i-j : goal.returns-then-i-j
returns-then-i-j c = c.cell_above.ensures ∙ sym (above_diagonal _ _ _ _ c.if-i-j.true)

pub returns-then-j-i : goal.returns-then-j-i
returns-then-j-i c = c.cell_above-then-j-i.ensures ∙ sym (below_diagonal _ _ _ _ c.if-j-i.true)

pub returns : goal.returns
returns c =
    let a = c.args in
    let same : a.i ≡ a.j = omega arith in
    rw same (sym (on_diagonal _ _ a.j))
