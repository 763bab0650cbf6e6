-- `Table::unequal` meets its contract: what is found from row i on is what is found from the start.
use mathlib.Core.Path.{◌≡◌}
use Prim.Native.Nat.{◌*◌}
use Rattle.trees.specs.Tables.{first_unequal}
use Rattle.table_checks.specs.inner.Searches.{unequal_from}
use Rattle.table_checks.proofs.cells.Table.unequal.Given as goal

abbrev pub invariant-loop-i : goal.invariant-loop-i
invariant-loop-i l =
    first_unequal l.self.n l.self.cells.now ≡ unequal_from l.self.n l.self.cells.now (l.i * l.self.n)
