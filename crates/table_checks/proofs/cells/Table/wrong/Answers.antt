-- `Table::wrong` meets its contract: a filled cell of the diagonal decides, and after it the halves.
use Rattle.table_checks.proofs.Verdicts.{filled_told, halves_decide}
use Rattle.table_checks.proofs.cells.Table.wrong.Goals as goal

pub returns-in-Some : goal.returns-in-Some
returns-in-Some c = filled_told _ _ c.in-Some.i c.in-Some.ensures

pub returns : goal.returns
returns c = rw (halves_decide _ _ c.in_default.ensures) c.unequal.ensures
