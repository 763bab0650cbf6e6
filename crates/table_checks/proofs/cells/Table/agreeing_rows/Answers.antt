-- `Table::agreeing_rows` meets its contract: what is found from row 4k on is what is found from the
-- start.
use mathlib.Core.Path.{sym}
use native.Mathlib.Nat.{zero-mul}
use Rattle.table_checks.proofs.Searches.{unequal_start}
use Rattle.table_checks.proofs.cells.Table.agreeing_rows.Goals as goal

pub loop-k-init : goal.loop-k-init
loop-k-init c = rw zero-mul (sym (unequal_start _ _))
