-- `Table::filled` meets its contract: what is found from i on is what is found from the start.
use mathlib.Core.Path.{◌≡◌}
use Rattle.trees.specs.Tables.{first_filled}
use Rattle.table_checks.proofs.Searches.{filled_from}
use Rattle.table_checks.proofs.cells.Table.filled.Given as goal

abbrev pub invariant-loop-i : goal.invariant-loop-i
invariant-loop-i l = first_filled l.self.n l.self.cells.now ≡ filled_from l.self.n l.self.cells.now l.i
