-- `Table::write_below` meets its contract. The loop's invariant: the cells passed are filled in.
use mathlib.Core.Path.{◌≡◌}
use Rattle.base.specs.Lists.{filled}
use Rattle.packed_tables.specs.Packed.{mirrored, packed_cells}
use Rattle.packed_tables.proofs.reading.Table.write_below.Given as goal

abbrev pub invariant-loop-j : goal.invariant-loop-j
invariant-loop-j l =
    l.out ≡ filled l.j (mirrored l.self.n (packed_cells l.self.n l.self.bytes.now) l.i) l.initial.out
