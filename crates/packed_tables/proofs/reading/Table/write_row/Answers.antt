-- `Table::write_row` meets its contract: the cells below the diagonal, the 0 on it, and those above it.
use mathlib.Core.Path.{sym}
use native.Mathlib.Omega.{arith}
use Rattle.base.proofs.Filling.{filled_more}
use Rattle.packed_tables.specs.Packed.{packed_cells}
use Rattle.packed_tables.proofs.PackedIsTable.{on_diagonal}
use Rattle.packed_tables.proofs.reading.Table.write_row.Goals.{After-write_below}
use Rattle.packed_tables.proofs.reading.Table.write_row.Goals as goal

pub returns : goal.returns
returns c =
    let a = c.args in
    let cells = packed_cells a.self.n a.self.bytes.now in
    let zero = sym (on_diagonal _ cells a.i) in
    c.write_above.ensures a.out.now (omega arith) (filled_more _ a.out.now c.write_below.ensures (omega arith) zero)
