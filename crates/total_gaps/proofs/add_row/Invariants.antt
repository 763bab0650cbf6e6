-- `total_gaps::add_row` meets its contract: `low` and `high` are together the sizes before column j, added up.
use Prim.Native.Nat.{◌+◌, ◌*◌, ◌≤◌}
use Rattle.total_gaps.specs.inner.Sizes.{SizesAdded}
use Rattle.total_gaps.proofs.add_row.Given as goal

abbrev pub invariant-loop-j : goal.invariant-loop-j
invariant-loop-j g l =
    SizesAdded g.row.SCALE l.row.order.now l.row.place l.cells l.j (l.low + 65536 * l.high)
    × (l.low ≤ l.j * 65535)
    × (l.high ≤ l.j * 65535)
