-- `Table::cell_above` meets its contract: a place below P(n) is two bytes of the table.
use mathlib.Core.Path.{sym, ◌∙◌}
use Prim.Native.Nat.{◌+◌, ◌*◌, ◌≤◌, ◌<◌}
use native.Mathlib.Omega.{arith}
use lib.ListN.{length}
use Rattle.pair_counts.specs.Pairs.{P}
use Rattle.packed_tables.proofs.CellPlaces.{place_below, cell_inside, cell_in_bytes}
use Rattle.packed_tables.proofs.reading.Table.cell_above.Goals.{After-cells_before}
use Rattle.packed_tables.proofs.reading.Table.cell_above.Goals as goal

below : (c : After-cells_before) → c.cells_before.result < P c.args.self.n
below c =
    let a = c.args in
    omega (arith, c.cells_before.ensures, place_below a.self.n a.i a.j (omega arith) (omega arith))

-- the two bytes of the cell are in the table
ends :
    (c : After-cells_before)
    → (let a = c.args in 2 * c.cells_before.result + 2 ≤ length a.self.bytes.now)
ends c =
    rw (c.cells_before.ensures, c.args.self.packed.1) (cell_inside _ _ _ c.requires.0 c.requires.1)

pub overflow_mul-cells_before : goal.overflow_mul-cells_before
overflow_mul-cells_before c = omega (arith, ends c)

pub pair_at-requires : goal.pair_at-requires
pair_at-requires c = ends c

pub returns : goal.returns
returns c =
    rw (← c.cells_before.ensures)
    (c.from.ensures ∙ c.pair_at.ensures.0 ∙ sym (cell_in_bytes _ _ _ (below (goal.at.returns c).After-cells_before)))
