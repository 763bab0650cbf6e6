-- `guess_merges::put_row` meets its contract. The loop's invariant: the cells with the leaves passed are written.
use Prim.Native.Nat.{◌-◌, ◌≤◌}
use Rattle.guess_merges.specs.inner.Blocks.{RowPut}
use Rattle.guess_merges.proofs.put_row.Given as goal

abbrev pub invariant-loop-y : goal.invariant-loop-y
invariant-loop-y l = (l.y ≤ l.n) × RowPut l.n l.arrays.label l.arrays.m l.x l.b l.e l.y l.initial.own l.own
