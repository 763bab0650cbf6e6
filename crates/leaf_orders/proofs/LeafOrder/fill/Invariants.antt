-- `leaf_orders::LeafOrder::fill` meets its contract: the leaves below k stand at their places, which no other leaf has.
use mathlib.Core.Path.{◌≡◌}
use lib.ListN.{length}
use Rattle.limits.specs.Limits.{most_leaves}
use Rattle.leaf_orders.proofs.Planned.{Placed}
use Rattle.leaf_orders.proofs.LeafOrder.fill.Given as goal

abbrev pub invariant-loop-k : goal.invariant-loop-k
invariant-loop-k l =
    let o = l.self in
    (o.n ≡ 0) × (o.listing.now ≡ l.fn.self.listing.now) × (length o.places ≡ most_leaves)
    × (length o.aboves ≡ most_leaves) × (length o.leaves ≡ most_leaves) × (length o.depths ≡ most_leaves)
    × Placed l.numbers o.places o.aboves o.leaves o.depths l.k
