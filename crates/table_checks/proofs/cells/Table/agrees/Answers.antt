-- `Table::agrees` meets its contract: 1 is said only where the two cells are equal.
use mathlib.Core.Path.{sym, ◌∙◌}
use borrow.Author.Tests.{eqb-true}
use Rattle.table_checks.proofs.Searches.{byte_told}
use Rattle.table_checks.proofs.cells.Table.agrees.Goals as goal

pub returns : goal.returns
returns c =
    let told = byte_told _ c.from.ensures in
    (told.0, λ e. sym c.cell.ensures ∙ eqb-true _ _ (told.1 e) ∙ c.cell-2.ensures)
