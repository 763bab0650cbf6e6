-- `nearest_pairs::choose` meets its contract. The pair of labels that is taken first.
use Prim.Native.Nat.{◌≤◌}
use Rattle.nearest_pairs.specs.inner.Nearest.{Rows, Best}
use Rattle.nearest_pairs.proofs.choose.Given as goal

abbrev pub invariant-loop-i : goal.invariant-loop-i
invariant-loop-i l = (l.i ≤ l.n) × Best l.n l.arrays.label l.arrays.sizes l.sums (Rows l.i) l.best
