-- `nearest_pairs::find_partner` meets its contract. The partner of a label: the pairs with the labels after it, in
-- their order.
use Prim.Native.Nat.{◌≤◌, ◌<◌}
use Rattle.nearest_pairs.specs.inner.Nearest.{RowTo, Best}
use Rattle.nearest_pairs.proofs.find_partner.Given as goal

abbrev pub invariant-loop-j : goal.invariant-loop-j
invariant-loop-j l = (l.i < l.j) × (l.j ≤ l.n) × Best l.n l.arrays.label l.arrays.sizes l.sums (RowTo l.i l.j) l.best
