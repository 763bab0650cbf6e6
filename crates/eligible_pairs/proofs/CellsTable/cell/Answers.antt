-- `eligible_pairs::CellsTable::cell` meets its contract: cells stand row by row.
use mathlib.Core.Path.{refl}
use Rattle.trees.specs.Tables.{cell}
use Rattle.eligible_pairs.proofs.CellsTable.cell.Goals as goal

pub returns : goal.returns
unfolding cell
returns c = refl
