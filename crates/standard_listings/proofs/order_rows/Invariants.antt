-- `standard_listings::order_rows` meets its contract. The loop's invariant: the least leaves under the numbers before
-- v are known, and the children of the nodes before v stand in order.
use Prim.Native.Nat.{◌≤◌, ◌*◌, ◌-◌}
use Rattle.standard_listings.specs.inner.Standardising.{Leasts, InOrder}
use Rattle.standard_listings.proofs.order_rows.Given as goal

abbrev pub invariant-loop-v : goal.invariant-loop-v
invariant-loop-v l =
    (l.n ≤ l.v) × (l.v ≤ 2 * l.n - 2) × Leasts l.n l.listing l.v l.leasts × InOrder l.n l.listing l.v l.sorted
