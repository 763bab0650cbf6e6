-- `poll_cases::say_cells` is safe: each cell is of 32 bits.
use Prim.Native.Nat.{◌*◌, ◌≤◌}
use Rattle.poll_cases.proofs.say_cells.Given as goal

abbrev pub invariant-loop-k : goal.invariant-loop-k
invariant-loop-k g l = l.total ≤ l.k * 4294967295
