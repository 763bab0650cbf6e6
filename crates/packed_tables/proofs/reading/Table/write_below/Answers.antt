-- `Table::write_below` meets its contract. The loop's invariant: the cells passed are filled in.
use mathlib.Core.Path.{sym, ◌∙◌}
use native.Mathlib.Omega.{arith}
use Rattle.base.proofs.Filling.{filled_none, filled_more}
use Rattle.packed_tables.specs.Packed.{packed_cells}
use Rattle.packed_tables.proofs.PackedIsTable.{below_diagonal}
use Rattle.packed_tables.proofs.reading.Table.write_below.Goals as goal

pub loop-j-init : goal.loop-j-init
loop-j-init c = sym (filled_none _ _)

pub loop-j-preserved : goal.loop-j-preserved
loop-j-preserved c =
    let l = c.loop-j in
    let s = c.args.self in
    let cells = packed_cells s.n s.bytes.now in
    let cell = c.cell_above.ensures ∙ sym (below_diagonal s.n cells c.args.i l.j (omega arith)) in
    filled_more _ _ l.invariant (omega arith) cell
