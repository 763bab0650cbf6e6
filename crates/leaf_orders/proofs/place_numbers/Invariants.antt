-- `leaf_orders::place_numbers` meets its contract: the last number and leaf 0 have their places, and so have the
-- children of the numbers from c on.
use Prim.Native.Nat.{◌≤◌}
use Rattle.leaf_orders.specs.inner.Orders.{NumbersPlaced}
use Rattle.leaf_orders.proofs.place_numbers.Given as goal

abbrev pub invariant-loop-c : goal.invariant-loop-c
invariant-loop-c l = (l.n ≤ l.c) × NumbersPlaced l.n l.listing l.numbers l.c
