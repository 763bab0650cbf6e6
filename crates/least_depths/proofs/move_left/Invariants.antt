-- `least_depths::move_left` meets its contract: the places from t to p have their least depths, and where it stops the
-- least depth to place p - 1 is that to place p.
use mathlib.Core.Path.{◌≡◌}
use mathlib.Core.Logic.{◌⊎◌}
use Prim.Native.Nat.{ℕ, ◌<◌}
use lib.ListN.{length}
use Rattle.limits.specs.Limits.{most_leaves}
use Rattle.leaf_orders.specs.inner.LeafOrders.{at, LeastBetween}
use Rattle.least_depths.specs.inner.Depths.{Before}
use Rattle.least_depths.proofs.move_left.Given as goal

abbrev pub invariant-loop-t : goal.invariant-loop-t
invariant-loop-t l =
    (l.t < l.p) × (length l.tops ≡ most_leaves) × LeastBetween l.depths l.t l.p l.low
    × Before l.leaves l.depths l.p l.tops l.t
    × ((s : ℕ) → (s < l.t) ⊎ (l.p < s) → s < l.n
    → at l.tops (at l.leaves s) ≡ at l.initial.tops (at l.leaves s))

abbrev pub decreases-loop-t : goal.decreases-loop-t
decreases-loop-t l = l.t
