-- `least_depths::leftwards` meets its contract: the places from t to p have their least depths.
use mathlib.Core.Path.{◌≡◌}
use Prim.Native.Nat.{ℕ, ◌<◌}
use lib.ListN.{length}
use Rattle.limits.specs.Limits.{most_leaves}
use Rattle.leaf_orders.specs.inner.LeafOrders.{at, LeastBetween}
use Rattle.least_depths.specs.inner.Depths.{Before}
use Rattle.least_depths.proofs.leftwards.Given as goal

abbrev pub invariant-loop-t : goal.invariant-loop-t
invariant-loop-t l =
    (length l.tops ≡ most_leaves) × LeastBetween l.depths l.t l.p l.low
    × Before l.leaves l.depths l.p l.tops l.t
    × ((s : ℕ) → l.p < s → s < l.n
    → at l.tops (at l.leaves s) ≡ at l.initial.tops (at l.leaves s))
