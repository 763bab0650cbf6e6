-- `eligible_pairs::PackedCellsTable::row_wrong` meets its contract: the row that was copied out is the table's.
use mathlib.Core.Path.{◌∙◌}
use native.Mathlib.Omega.{arith}
use lib.ListN.{replicate}
use Rattle.limits.specs.Limits.{most_leaves}
use Rattle.packed_tables.specs.Packed.{Packed}
use Rattle.packed_tables.proofs.Sizes.{packed_passes}
use Rattle.eligible_pairs.proofs.Lent.{as_packed, meant_packed, packed_row_is, row_counts}
use Rattle.eligible_pairs.proofs.PackedCellsTable.row_wrong.Goals.{Start, After-write_row}
use Rattle.eligible_pairs.proofs.PackedCellsTable.row_wrong.Goals as goal

packed : (c : Start) → Packed c.args.n c.args.self.now.bytes.now
packed c = meant_packed c.args.n c.args.self.now.bytes.now c.requires.1 (omega arith)

pub returns : goal.returns
returns c =
    let a = c.args in
    let is_packed = packed (goal.at.returns c).Start in
    let cells_are = packed_row_is a.n _ is_packed a.x (replicate most_leaves 0) c.requires.3 c.requires.0 in
    rw (as_packed _ _ (packed_passes _ _ is_packed)) (c.cells_wrong.ensures
    ∙ row_counts a.n _ _ _ _ a.x a.b a.e (λ y l. rw c.write_row.ensures (cells_are y l)))
