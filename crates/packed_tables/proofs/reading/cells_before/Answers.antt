-- `packed_tables::reading::cells_before` meets its contract: the rows before row i hold i n − i (i + 1) / 2 cells.
use mathlib.Core.Path.{sym}
use native.Mathlib.Omega.{arith}
use Rattle.packed_tables.proofs.CellPlaces.{place_is}
use Rattle.packed_tables.proofs.reading.cells_before.Goals as goal

pub returns : goal.returns
returns c = let a = c.args in sym (place_is a.n a.i a.j (omega arith) (omega arith))
