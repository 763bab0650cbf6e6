-- `sheet_tables::table::write_table` meets its contract: after i turns the rows before row i stand in the buffer.
use mathlib.Core.Path.{◌≡◌}
use Prim.Native.Nat.{◌*◌}
use lib.ListN.{length}
use Rattle.base.specs.Lists.{filled}
use Rattle.packed_tables.specs.Packed.{packed_cells}
use Rattle.sheet_tables.specs.inner.Rows.{table_rule}
use Rattle.sheet_tables.proofs.table.write_table.Given as goal

abbrev pub invariant-loop-i : goal.invariant-loop-i
invariant-loop-i l =
    (length l.out ≡ length l.initial.out)
    × (l.out ≡ filled (l.i * l.n) (table_rule l.n (packed_cells l.n l.packed)) l.initial.out)
