-- `packed_writing::put_cell` meets its contract: below the diagonal the mirror cell is written.
use Rattle.packed_writing.proofs.CellsPut.{mirror_put}
use Rattle.packed_writing.proofs.put_cell.Goals as goal

pub returns-then-i-j : goal.returns-then-i-j
returns-then-i-j c = c.put_above.ensures

pub returns-else-i-j : goal.returns-else-i-j
returns-else-i-j c = mirror_put c.put_above-else-i-j.ensures
