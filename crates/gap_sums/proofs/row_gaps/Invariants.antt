-- `gap_sums::row_gaps` meets its contract. The loop's invariant: `low` and `high` are together the sum over the cells
-- passed.
use mathlib.Core.Path.{◌≡◌}
use Prim.Native.Nat.{◌+◌, ◌*◌, ◌≤◌}
use lib.Dec.{eqb}
use lib.ListN.{get_or}
use Rattle.base.specs.Numbers.{indicator, sum_below, distance}
use Rattle.gap_sums.proofs.row_gaps.Given as goal

abbrev pub invariant-loop-x : goal.invariant-loop-x
invariant-loop-x l =
    (l.x ≤ l.n)
    × (l.low + 65536 * l.high
    ≡ sum_below l.x (λ k. indicator (eqb (get_or l.arrays.label k 0) l.a)
    (distance (get_or l.row k 0) (l.due + get_or l.arrays.m k 0))))
    × (l.low ≤ l.x * 65535) × (l.high ≤ l.x * 65535)
