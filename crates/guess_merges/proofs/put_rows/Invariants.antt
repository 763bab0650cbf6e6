-- `guess_merges::put_rows` meets its contract. The loop's invariant: the rows passed are written.
use Prim.Native.Nat.{◌-◌, ◌≤◌}
use Rattle.guess_merges.specs.inner.Blocks.{BlockPut}
use Rattle.guess_merges.proofs.put_rows.Given as goal

abbrev pub invariant-loop-x : goal.invariant-loop-x
invariant-loop-x l = (l.x ≤ l.n) × BlockPut l.n l.arrays.label l.arrays.m l.a l.b l.e l.x l.initial.own l.own
