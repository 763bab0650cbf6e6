-- `edge_totals::weigh_rows` meets its contract: the children of the rows before row k are weighed, and the arrays hold
-- the subtrees that are there before it.
use mathlib.Core.Path.{◌≡◌, refl, ap, ◌∙◌}
use Prim.Native.Nat.{◌+◌, ◌-◌, ◌*◌, ◌<◌}
use native.Mathlib.Omega.{arith}
use lib.ListN.{get_or}
use Rattle.std.proofs.lemmas.List.{length-map}
use mathlib.Core.Bool.{true}
use Rattle.limits.specs.Limits.{most_leaves, most_nodes}
use Rattle.trees.specs.Listings.{subtree_at}
use Rattle.grafted_trees.specs.Grafts.{names_edge}
use Rattle.grafted_trees.proofs.EdgeNumbers.{range_edge}
use Rattle.listings.proofs.Rows.{RowOf, row_read}
use Rattle.edge_weights.specs.inner.Rows.{Held}
use Rattle.edge_weights.proofs.FreeNumbers.{last_free}
use Rattle.edge_weights.proofs.RowsJoined.{rows_begun, first_held, second_held, merge_ready, row_joined}
use Rattle.edge_weights.proofs.RowGaps.{row_fits, row_is}
use Rattle.edge_totals.proofs.WeightsKept.{kept_two, kept_row, weights_begun, weights_more, weights_all}
use Rattle.edge_totals.proofs.weigh_rows.Goals.{After-loop-k, After-row_at-r}
use Rattle.edge_totals.proofs.weigh_rows.Goals as goal

pub loop-k-init : goal.loop-k-init
loop-k-init c =
    let p = c.requires in
    let arrays = c.single-arrays.ensures in (
      rw (arrays.m, arrays.sizes) (rows_begun _ _ _ p.count.1 _ _ arrays.label refl c.own_numbers.ensures refl),
      weights_begun (length-map _ _ ∙ c.told-weights) (length-map _ _ ∙ c.told-weights)
          (length-map _ _ ∙ c.told-weights),
    )

-- the row that is read
the_row : (c : After-row_at-r) → RowOf c.args.t.n c.args.listing.now c.loop-k.k c.row_at-r.result
the_row c =
    let p = c.requires in
    row_read _ _ p.count p.keeps _ c.loop-k-test.true c.row_at-r.ensures

-- its numbers have places in the arrays
places : (c : After-row_at-r) → (c.row_at-r.result.first < most_nodes) × (c.row_at-r.result.second < most_nodes)
places c =
    let few = c.requires.count in
    let r = the_row c in
    let k = c.loop-k-test.true in
    (omega (arith, r.first_before, few, k), omega (arith, r.second_before, few, k))

pub offset_bounds-weights-i : goal.offset_bounds-weights-i
offset_bounds-weights-i c = omega (arith, (places (goal.at.offset_bounds-weights-i c).After-row_at-r).0)

pub bounds-weights-i : goal.bounds-weights-i
bounds-weights-i c = (places (goal.at.bounds-weights-i c).After-row_at-r).0

pub offset_bounds-weights-j : goal.offset_bounds-weights-j
offset_bounds-weights-j c = omega (arith, (places (goal.at.offset_bounds-weights-j c).After-row_at-r).1)

pub bounds-weights-j : goal.bounds-weights-j
bounds-weights-j c = (places (goal.at.bounds-weights-j c).After-row_at-r).1

pub offset_bounds-firsts-i : goal.offset_bounds-firsts-i
offset_bounds-firsts-i c = omega (arith, (places (goal.at.offset_bounds-firsts-i c).After-row_at-r).0)

pub bounds-firsts-i : goal.bounds-firsts-i
bounds-firsts-i c =
    omega (arith, (places (goal.at.bounds-firsts-i c).After-row_at-r).0, c.loop-k.invariant.0.firsts_long)

pub offset_bounds-firsts-j : goal.offset_bounds-firsts-j
offset_bounds-firsts-j c = omega (arith, (places (goal.at.offset_bounds-firsts-j c).After-row_at-r).1)

pub bounds-firsts-j : goal.bounds-firsts-j
bounds-firsts-j c =
    omega (arith, (places (goal.at.bounds-firsts-j c).After-row_at-r).1, c.loop-k.invariant.0.firsts_long)

-- the labels of its two children
first_label :
    (c : After-row_at-r) → RowOf c.args.t.n c.args.listing.now c.loop-k.k c.row_at-r.result
    → get_or c.loop-k.firsts c.row_at-r.result.first 0
    ≡ get_or c.loop-k.firsts (get_or c.args.listing.now (2 * c.loop-k.k) 0) 0
first_label c r = ap (λ i. get_or c.loop-k.firsts i 0) r.first_is

second_label :
    (c : After-row_at-r) → RowOf c.args.t.n c.args.listing.now c.loop-k.k c.row_at-r.result
    → get_or c.loop-k.firsts c.row_at-r.result.second 0
    ≡ get_or c.loop-k.firsts (get_or c.args.listing.now (2 * c.loop-k.k + 1) 0) 0
second_label c r = ap (λ i. get_or c.loop-k.firsts i 0) r.second_is

-- a label is a leaf
low :
    (c : After-row_at-r) → RowOf c.args.t.n c.args.listing.now c.loop-k.k c.row_at-r.result
    → (get_or c.loop-k.firsts c.row_at-r.result.first 0) < most_leaves
low c r =
    let held = first_held c.requires c.loop-k-test.true c.loop-k.invariant.0 in
    omega (arith, first_label c r, held.below, c.requires.count)

low_too :
    (c : After-row_at-r) → RowOf c.args.t.n c.args.listing.now c.loop-k.k c.row_at-r.result
    → get_or c.loop-k.firsts c.row_at-r.result.second 0 < most_leaves
low_too c r =
    let held = second_held c.requires c.loop-k-test.true c.loop-k.invariant.0 in
    omega (arith, second_label c r, held.below, c.requires.count)

pub overflow_cast-a : goal.overflow_cast-a
overflow_cast-a c =
    let r = (goal.at.overflow_cast-a c).After-row_at-r in omega (arith, low r (the_row r))

pub overflow_cast-b : goal.overflow_cast-b
overflow_cast-b c =
    let r = (goal.at.overflow_cast-b c).After-row_at-r in omega (arith, low_too r (the_row r))

pub merge-requires : goal.merge-requires
merge-requires c =
    let r = the_row (goal.at.merge-requires c).After-row_at-r in
    let b = (goal.at.merge-requires c).After-row_at-r in
    rw (first_label b r, second_label b r) (merge_ready c.requires c.loop-k-test.true c.loop-k.invariant.0)

pub bounds-firsts-n : goal.bounds-firsts-n
bounds-firsts-n c = omega (arith, c.loop-k.invariant.0.firsts_long, c.requires.count, c.loop-k-test.true)

pub loop-k-preserved : goal.loop-k-preserved
loop-k-preserved c =
    let given = c.requires in
    let inv = c.loop-k.invariant in
    let r = the_row (goal.at.loop-k-preserved c).After-row_at-r in
    let b = (goal.at.loop-k-preserved c).After-row_at-r in
    let merged = rw (first_label b r, second_label b r) at c.merge.ensures in (
      row_joined given c.loop-k-test.true inv.0 merged (rw (first_label b r)),
      rw (kept_two, kept_two, kept_two, r.first_is, r.second_is)
          (weights_more given c.loop-k-test.true inv.1 c.weigh_row-w.ensures),
    )

-- the edge above the tree's node, and what the arrays hold of it
last_edge : (c : After-loop-k) → names_edge c.args.t.n (2 * c.args.t.n - 3) ≡ true
last_edge c = range_edge _ _ (omega (arith, c.requires.count)) (omega arith)

last_held :
    (c : After-loop-k)
    → (let a = c.args in
    let l = c.loop-k in
    Held a.t.n a.t.scale l.arrays.label l.arrays.m l.arrays.sizes (get_or l.firsts (2 * a.t.n - 3) 0)
    (subtree_at a.t.n a.listing.now (2 * a.t.n - 3)))
last_held c =
    let p = c.requires in
    let e : c.loop-k.k ≡ c.args.t.n - 2 = omega arith in
    (rw e at c.loop-k.invariant.0).held _ (last_free _ _ p.count p.keeps)

pub new_row_gap-requires : goal.new_row_gap-requires
new_row_gap-requires c =
    let given = c.requires in
    let end = (goal.at.new_row_gap-requires c).After-loop-k in
    let held = last_held end in
    rw held.sized (row_fits given _ (last_edge end) held c.loop-k.invariant.0.small)

pub returns : goal.returns
returns c =
    let given = c.requires in
    let end = (goal.at.returns c).After-loop-k in
    let held = last_held end in
    let gaps = rw held.sized at c.new_row_gap.ensures.0 in
    let kept = kept_row c.loop-k.weights (2 * c.args.t.n - 3) c.new_row_gap.result in
    rw (kept.0, kept.1, kept.2)
    (weights_all given (omega arith) c.loop-k.invariant.1 (gaps ∙ row_is given _ (last_edge end) held))

pub single-arrays-requires : goal.single-arrays-requires
single-arrays-requires c = c.requires.count.1

pub own_numbers-requires : goal.own_numbers-requires
own_numbers-requires c =
    let p = c.requires in
    (p.count.1, omega (arith, p.count))

pub weigh_row-w-requires : goal.weigh_row-w-requires
weigh_row-w-requires c = (c.requires, c.loop-k.invariant.0, c.loop-k-test.true)

pub overflow_cast-firsts : goal.overflow_cast-firsts
overflow_cast-firsts c =
    let at = goal.at.overflow_cast-firsts c in
    omega (arith, low at.After-row_at-r (the_row at.After-row_at-r))

pub overflow_add-firsts : goal.overflow_add-firsts
overflow_add-firsts c = omega (arith, c.requires.count, c.loop-k-test.true)

pub offset_bounds-firsts-n : goal.offset_bounds-firsts-n
offset_bounds-firsts-n c = omega (arith, c.requires.count, c.loop-k-test.true)

pub overflow_mul-last : goal.overflow_mul-last
overflow_mul-last c = omega (arith, c.requires.count)

pub overflow_sub-last : goal.overflow_sub-last
overflow_sub-last c = omega (arith, c.requires.count)

pub offset_bounds-firsts-last : goal.offset_bounds-firsts-last
offset_bounds-firsts-last c = omega (arith, c.requires.count)

pub bounds-firsts-last : goal.bounds-firsts-last
bounds-firsts-last c = omega (arith, c.requires.count, c.loop-k.invariant.0.firsts_long)

pub offset_bounds-arrays-f : goal.offset_bounds-arrays-f
offset_bounds-arrays-f c =
    let held = last_held (goal.at.offset_bounds-arrays-f c).After-loop-k in
    omega (arith, held.below, c.requires.count)

pub bounds-arrays-f : goal.bounds-arrays-f
bounds-arrays-f c =
    let held = last_held (goal.at.bounds-arrays-f c).After-loop-k in
    omega (arith, held.below, c.requires.count, c.loop-k.invariant.0.sizes_long)
