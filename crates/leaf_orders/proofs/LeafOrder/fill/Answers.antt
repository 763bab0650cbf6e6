-- `leaf_orders::LeafOrder::fill` meets its contract: the leaves below k stand at their places, which no other leaf has.
use mathlib.Core.Path.{refl}
use native.Mathlib.Omega.{arith}
use lib.ListN.{length-set}
use Rattle.trees.specs.Listings.{tree_of}
use Rattle.leaf_orders.specs.inner.Orders.{Prepared, IsPlan}
use Rattle.leaf_orders.proofs.Placing.{place_of}
use Rattle.leaf_orders.proofs.Planned.{OwnPlaces, own_places, plan_made, order_made, there_small, placed_more}
use Rattle.leaf_orders.proofs.LeafOrder.fill.Goals.{After-place_numbers, After-loop-k}
use Rattle.leaf_orders.proofs.LeafOrder.fill.Goals as goal

-- the leaves under each number are counted
prepared : (c : After-place_numbers) → Prepared c.args.n c.args.self.now.listing.now c.count_leaves.new.sizes
prepared c =
    let p = c.requires in
    record { leaf_count = p.0; listing = p.1; sized = c.count_leaves.ensures }

-- each leaf has a place of its own
own : (c : After-place_numbers) → OwnPlaces c.args.n (place_of c.place_numbers.new.numbers)
own c =
    let p = c.requires in
    own_places _ _ p.0 p.1 (prepared c) c.place_numbers.ensures

pub bounds-self-at : goal.bounds-self-at
bounds-self-at c = there_small _ c.loop-k.k (own (goal.at.bounds-self-at c).After-place_numbers) (omega arith)

pub bounds-self-at-in-loop-k : goal.bounds-self-at-in-loop-k
bounds-self-at-in-loop-k c =
    there_small _ c.loop-k.k (own (goal.at.bounds-self-at-in-loop-k c).After-place_numbers) (omega arith)

pub loop-k-preserved : goal.loop-k-preserved
loop-k-preserved c =
    let l = c.loop-k in
    let i = l.invariant in (
      i.0,
      i.1,
      simp length-set i.2,
      simp length-set i.3,
      simp length-set i.4,
      simp length-set i.5,
      placed_more _ l.k (own (goal.at.loop-k-preserved c).After-place_numbers) (omega arith) i.2 i.3 i.4 i.5 i.6,
    )

-- with all leaves at their places the plan is made
plan :
    (c : After-loop-k)
    → (let a = c.args in
    let o = c.loop-k.self in
    IsPlan a.n (tree_of a.n a.self.now.listing.now) o.places o.aboves o.leaves o.depths)
plan c =
    let p = c.requires in
    plan_made _ _ p.0 p.1 (prepared (goal.at.invariant_of-self-2 c).After-place_numbers) c.place_numbers.ensures
    (λ k lk. c.loop-k.invariant.6 k (omega arith))

pub invariant_of-self-2 : goal.invariant_of-self-2
invariant_of-self-2 c =
    let p = c.requires in
    rw c.loop-k.invariant.1 (record { ordered = order_made _ _ p.0 p.1 (plan c) })

pub returns : goal.returns
returns c = (refl, c.loop-k.invariant.1, plan (goal.at.returns c).After-loop-k)
