-- `Table::agreeing_rows` meets its contract: what is found from row 4k on is what is found from the
-- start.
use mathlib.Core.Path.{◌≡◌}
use Prim.Native.Nat.{◌*◌}
use Rattle.trees.specs.Tables.{first_unequal}
use Rattle.table_checks.specs.inner.Searches.{unequal_from}
use Rattle.table_checks.proofs.cells.Table.agreeing_rows.Given as goal

abbrev pub invariant-loop-k : goal.invariant-loop-k
invariant-loop-k l =
    first_unequal l.self.n l.self.cells.now ≡ unequal_from l.self.n l.self.cells.now (4 * l.k * l.self.n)
