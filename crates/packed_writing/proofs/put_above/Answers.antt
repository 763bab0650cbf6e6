-- `packed_writing::put_above` meets its contract: the two bytes of the cell are set.
use Prim.Native.Nat.{◌+◌, ◌*◌, ◌≤◌}
use native.Mathlib.Omega.{arith}
use lib.ListN.{length, length-set}
use Rattle.packed_tables.proofs.CellPlaces.{cell_inside}
use Rattle.packed_writing.proofs.CellsPut.{cell_put}
use Rattle.packed_writing.proofs.put_above.Goals.{After-cells_before-at}
use Rattle.packed_writing.proofs.put_above.Goals as goal

-- the two bytes of the cell are in the table
ends :
    (c : After-cells_before-at)
    → (let a = c.args in 2 * c.cells_before-at.result + 2 ≤ length a.packed.now)
ends c =
    rw (c.cells_before-at.ensures, c.requires.0.1) (cell_inside _ _ _ c.requires.1 c.requires.2)

pub overflow_mul-at : goal.overflow_mul-at
overflow_mul-at c = omega (arith, ends c)

pub bounds-packed-at : goal.bounds-packed-at
bounds-packed-at c = omega (arith, ends (goal.at.bounds-packed-at c).After-cells_before-at)

pub overflow_add-packed : goal.overflow_add-packed
overflow_add-packed c = omega (arith, ends (goal.at.overflow_add-packed c).After-cells_before-at)

pub bounds-packed-at-2 : goal.bounds-packed-at-2
bounds-packed-at-2 c = simp length-set (omega (arith, ends (goal.at.bounds-packed-at-2 c).After-cells_before-at))

pub returns : goal.returns
returns c =
    let a = c.args in
    rw (c.cells_before-at.ensures, c.to_le_bytes.ensures)
    (cell_put a.n a.packed.now c.requires.0 a.i a.j a.v c.requires.1 c.requires.2 (omega arith))
