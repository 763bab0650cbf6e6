-- `least_depths::rightwards` meets its contract: the places between p and t have their least depths.
use mathlib.Core.Path.{◌≡◌}
use Prim.Native.Nat.{◌-◌}
use lib.ListN.{length}
use Rattle.limits.specs.Limits.{most_leaves}
use Rattle.leaf_orders.specs.inner.LeafOrders.{LeastBetween}
use Rattle.least_depths.specs.inner.Depths.{After}
use Rattle.least_depths.proofs.rightwards.Given as goal

abbrev pub invariant-loop-t : goal.invariant-loop-t
invariant-loop-t l =
    (length l.tops ≡ most_leaves) × LeastBetween l.depths l.p (l.t - 1) l.low
    × After l.leaves l.depths l.p l.tops l.t
