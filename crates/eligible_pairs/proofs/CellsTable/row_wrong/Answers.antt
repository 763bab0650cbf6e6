-- `eligible_pairs::CellsTable::row_wrong` meets its contract: the wrong cells of the row are those of row x.
use mathlib.Core.Path.{◌∙◌}
use Rattle.eligible_pairs.proofs.Lent.{row_counts}
use Rattle.eligible_pairs.proofs.CellsTable.row_wrong.Goals as goal

pub returns : goal.returns
returns c =
    let a = c.args in
    c.cells_wrong.ensures ∙ row_counts a.n a.self.now.cells.now _ _ _ a.x _ _ c.row_of.ensures.cells
