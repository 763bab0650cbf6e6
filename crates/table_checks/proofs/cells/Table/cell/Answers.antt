-- `Table::cell` meets its contract: the cell stands at its place.
use borrow.Author.Rules.{rules}
use Rattle.trees.specs.Tables.{cell}
use Rattle.table_checks.proofs.cells.Table.cell.Goals as goal

pub returns : goal.returns
unfolding cell
returns c = search rules
