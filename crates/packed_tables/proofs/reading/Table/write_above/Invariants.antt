-- `Table::write_above` meets its contract. The loop's invariant: the cells passed are filled in.
use mathlib.Core.Path.{◌≡◌}
use mathlib.Core.List.{List}
use Prim.Native.Nat.{ℕ, ◌+◌, ◌≤◌}
use lib.ListN.{length}
use Rattle.base.specs.Lists.{filled}
use Rattle.packed_tables.specs.Packed.{mirrored, packed_cells}
use Rattle.packed_tables.proofs.reading.Table.write_above.Given as goal

abbrev pub invariant-loop-j : goal.invariant-loop-j
invariant-loop-j l =
    let cells = mirrored l.self.n (packed_cells l.self.n l.self.bytes.now) l.i in
    (base : List ℕ) → l.self.n ≤ length base → l.initial.out ≡ filled (l.i + 1) cells base
    → l.out ≡ filled l.j cells base
