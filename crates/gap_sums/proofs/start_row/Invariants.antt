-- `gap_sums::start_row` meets its contract. The loop's invariant: the sums with the leaves passed are stored.
use Prim.Native.Nat.{◌≤◌}
use Rattle.gap_sums.specs.inner.GapSums.{RowStarted}
use Rattle.gap_sums.proofs.start_row.Given as goal

abbrev pub invariant-loop-i : goal.invariant-loop-i
invariant-loop-i l = (l.i ≤ l.j) × RowStarted l.row l.e l.j l.i l.initial.sums l.sums
