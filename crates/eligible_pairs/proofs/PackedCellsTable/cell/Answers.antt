-- `eligible_pairs::PackedCellsTable::cell` meets its contract: the bytes are a packed table, and its cell is read.
use mathlib.Core.Path.{◌∙◌}
use native.Mathlib.Omega.{arith}
use Rattle.packed_tables.proofs.Sizes.{packed_passes}
use Rattle.eligible_pairs.proofs.Lent.{as_packed, meant_packed, packed_cell_is}
use Rattle.eligible_pairs.proofs.PackedCellsTable.cell.Goals as goal

pub returns : goal.returns
returns c =
    let a = c.args in
    let packed = meant_packed a.n a.self.now.bytes.now c.requires.1 (omega arith) in
    rw (as_packed _ _ (packed_passes _ _ packed))
    (c.cell.ensures ∙ packed_cell_is _ _ packed a.i a.j (omega arith) (omega arith))
