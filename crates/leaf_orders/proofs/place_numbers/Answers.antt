-- `leaf_orders::place_numbers` meets its contract: the last number and leaf 0 have their places, and so have the
-- children of the numbers from c on.
use mathlib.Core.Path.{◌≡◌}
use Prim.Native.Nat.{◌+◌, ◌-◌}
use native.Mathlib.Omega.{arith}
use Rattle.leaf_orders.proofs.Placing.{Next, first_below, second_below, few, children_placed}
use Rattle.leaf_orders.proofs.Placing.{placing_starts}
use Rattle.leaf_orders.proofs.Planned.{under_others}
use Rattle.leaf_orders.proofs.Rows.{pairs_small}
use Rattle.leaf_orders.proofs.place_numbers.Goals.{After-children_of-r}
use Rattle.leaf_orders.proofs.place_numbers.Goals as goal

-- the children of the next number are told
next :
    (c : After-children_of-r)
    → (let i = c.loop-c in
    let a = c.args in
    let r = c.children_of-r.result in
    Next a.n a.listing.now a.sizes.now i.numbers (i.c - 1) r.first r.left r.second r.right)
next c =
    let i = c.loop-c in
    let here : i.c - 1 + 1 ≡ i.c = omega arith in
    record {
      asked = c.requires.0;
      low = omega arith;
      high = omega arith;
      so_far = rw here i.invariant.1;
      children = c.children_of-r.ensures;
    }

pub overflow_sub-numbers : goal.overflow_sub-numbers
overflow_sub-numbers c =
    omega (arith, c.pairs-others.ensures, pairs_small (c.args.n - 1) (omega (arith, c.requires.0.leaf_count.1)))

pub loop-c-init : goal.loop-c-init
loop-c-init c =
    let g = c.requires.0 in (
      omega arith,
      rw c.requires.1 (placing_starts c.args.n c.args.listing.now g.leaf_count g.listing c.pairs-others.result
          c.pairs-others.ensures (under_others _ _ g.leaf_count g.listing)),
    )

pub children_of-r-requires : goal.children_of-r-requires
children_of-r-requires c =
    let i = c.loop-c in
    (c.requires.0, omega arith, omega arith, i.invariant.1.inside (i.c - 1) (omega arith))

pub bounds-numbers-r : goal.bounds-numbers-r
bounds-numbers-r c =
    let f = next (goal.at.bounds-numbers-r c).After-children_of-r in omega (arith, first_below f, few f)

pub bounds-numbers-r-in-loop-c : goal.bounds-numbers-r-in-loop-c
bounds-numbers-r-in-loop-c c =
    let f = next (goal.at.bounds-numbers-r-in-loop-c c).After-children_of-r in omega (arith, second_below f, few f)

pub loop-c-preserved : goal.loop-c-preserved
loop-c-preserved c = (omega arith, children_placed (next (goal.at.loop-c-preserved c).After-children_of-r))
