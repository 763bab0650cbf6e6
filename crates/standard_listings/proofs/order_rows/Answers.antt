-- `standard_listings::order_rows` meets its contract. The loop's invariant: the least leaves under the numbers before
-- v are known, and the children of the nodes before v stand in order.
use mathlib.Core.Path.{◌≡◌, sym, ◌∙◌}
use Prim.Native.Nat.{◌*◌, ◌-◌}
use native.Mathlib.Omega.{arith}
use Rattle.standard_listings.specs.inner.Standardising.{AtNode}
use Rattle.standard_listings.proofs.Nodes.{first_below, second_below, least_node}
use Rattle.standard_listings.proofs.Leasts.{leasts_none, leasts_more, order_none, order_more}
use Rattle.standard_listings.proofs.order_rows.Goals.{In-loop-v}
use Rattle.standard_listings.proofs.order_rows.Goals as goal

-- the node of this turn
at_node :
    (c : In-loop-v)
    → (AtNode c.args.n c.args.listing.now c.loop-v.v)
at_node c = record {
  count = c.requires.0;
  keeps = c.requires.1;
  low = omega arith;
  high = omega arith;
}

pub loop-v-init : goal.loop-v-init
loop-v-init c = (omega arith, omega arith, leasts_none _ _ _ c.requires.2, order_none _ _ _ c.requires.3)

pub in_order-c-requires : goal.in_order-c-requires
in_order-c-requires c = (at_node c, c.loop-v.invariant.2)

pub least_of-requires : goal.least_of-requires
least_of-requires c =
    let w = at_node (goal.at.least_of-requires c).In-loop-v in
    (w.count, omega (arith, c.in_order-c.ensures.first, first_below w, w))

pub bounds-leasts-v : goal.bounds-leasts-v
bounds-leasts-v c =
    omega (
      arith,
      c.loop-v.invariant.2.long,
      at_node (goal.at.bounds-leasts-v c).In-loop-v,
    )

pub overflow_cast-sorted : goal.overflow_cast-sorted
overflow_cast-sorted c =
    omega (arith, c.in_order-c.ensures.first, first_below (at_node (goal.at.overflow_cast-sorted c).In-loop-v))

pub bounds-sorted-k : goal.bounds-sorted-k
bounds-sorted-k c =
    omega (
      arith,
      c.loop-v.invariant.3.long,
      at_node (goal.at.bounds-sorted-k c).In-loop-v,
    )

pub overflow_cast-sorted-in-loop-v : goal.overflow_cast-sorted-in-loop-v
overflow_cast-sorted-in-loop-v c =
    let w = at_node (goal.at.overflow_cast-sorted-in-loop-v c).In-loop-v in
    omega (arith, c.in_order-c.ensures.second, second_below w)

pub bounds-sorted-k-in-loop-v : goal.bounds-sorted-k-in-loop-v
bounds-sorted-k-in-loop-v c =
    omega (
      arith,
      c.loop-v.invariant.3.long,
      at_node (goal.at.bounds-sorted-k-in-loop-v c).In-loop-v,
    )

pub loop-v-preserved : goal.loop-v-preserved
loop-v-preserved c =
    let w = at_node (goal.at.loop-v-preserved c).In-loop-v in
    let inv = c.loop-v.invariant in
    let made = c.in_order-c.ensures in
    let least_first = inv.2.is _ (first_below w) ∙ sym (least_node w) in (
      omega arith,
      omega arith,
      leasts_more _ _ _ _ _ w.low (omega arith) (c.least_of.ensures ∙ rw made.first least_first) inv.2,
      order_more _ _ _ _ _ _ w.low (omega arith) made.first made.second inv.3,
    )

pub returns : goal.returns
returns c =
    let l = c.loop-v in
    let end : l.v ≡ 2 * c.args.n - 2 = omega arith in
    rw end at l.invariant.3
