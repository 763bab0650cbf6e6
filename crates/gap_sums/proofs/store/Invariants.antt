-- `gap_sums::store` meets its contract. The loop's invariant: the sums with the labels passed are stored.
use Prim.Native.Nat.{◌≤◌}
use lib.ListN.{get_or}
use Rattle.gap_sums.specs.inner.GapSums.{Stored}
use Rattle.gap_sums.proofs.store.Given as goal

abbrev pub invariant-loop-k : goal.invariant-loop-k
invariant-loop-k l = (l.k ≤ l.n) × Stored l.n l.a l.k (λ x. get_or l.new x 0) l.initial.sums l.sums
