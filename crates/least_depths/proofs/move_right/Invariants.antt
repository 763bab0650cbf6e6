-- `least_depths::move_right` meets its contract: the places between p and t have their least depths, and where it stops
-- the least depth from place p - 1 is that from place p.
use mathlib.Core.Path.{◌≡◌}
use mathlib.Core.Logic.{◌⊎◌}
use Prim.Native.Nat.{ℕ, ◌-◌, ◌≤◌, ◌<◌}
use lib.ListN.{length}
use Rattle.limits.specs.Limits.{most_leaves}
use Rattle.leaf_orders.specs.inner.LeafOrders.{at, LeastBetween}
use Rattle.least_depths.specs.inner.Depths.{After}
use Rattle.least_depths.proofs.move_right.Given as goal

abbrev pub invariant-loop-t : goal.invariant-loop-t
invariant-loop-t l =
    (l.p < l.t) × (l.t ≤ l.n) × (length l.tops ≡ most_leaves) × LeastBetween l.depths l.p (l.t - 1) l.low
    × After l.leaves l.depths l.p l.tops l.t
    × ((s : ℕ) → (s < l.p) ⊎ (l.t ≤ s) → s < l.n
    → at l.tops (at l.leaves s) ≡ at l.initial.tops (at l.leaves s))

abbrev pub decreases-loop-t : goal.decreases-loop-t
decreases-loop-t l = l.n - l.t
