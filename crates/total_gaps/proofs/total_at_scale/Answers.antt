-- `total_gaps::total_at_scale` meets its contract: the rows of the leaves at the places before p are added up.
use mathlib.Core.Path.{refl, ◌∙◌}
use Prim.Native.Nat.{◌<◌}
use native.Mathlib.Omega.{arith}
use Rattle.base.specs.Numbers.{sum_below}
use Rattle.trees.specs.Listings.{tree_of}
use Rattle.least_depths.proofs.RowCounts.{places_sum}
use Rattle.total_gaps.proofs.Totals.{rows_more, rows_all}
use Rattle.total_gaps.proofs.total_at_scale.Goals as goal

pub loop-p-init : goal.loop-p-init
unfolding sum_below
loop-p-init g c =
    let made = c.fill.ensures in
    rw c.first-row.ensures.0 (made.0, made.1 ∙ c.new-order.ensures.1, refl, omega arith)

pub loop-p-preserved : goal.loop-p-preserved
loop-p-preserved g c =
    let l = c.loop-p in
    let i = l.invariant in
    let o = l.row.order.now in
    let inside : l.p < o.n = rw i.0 c.loop-p-test.true in
    let sizes = rw (c.seek.ensures.0, c.seek.ensures.1) at c.add_row-total.ensures in
    let more = rows_more g.row.SCALE c.args.cells.now o l.p (rw i.0 c.requires.2) inside sizes in
    let row = o.ordered.leaf_below l.p inside in
    rw c.seek.ensures.0 (i.0, i.1, rw i.2 more, omega (arith, sizes.small, i.3, o.ordered.few, row))

pub returns : goal.returns
returns g c =
    let i = c.loop-p.invariant in
    let o = c.loop-p.row.order.now in
    let T = tree_of o.n o.listing.now in
    let all =
    rows_all o.n g.row.SCALE c.args.cells.now T o.leaves c.loop-p.p (places_sum o.ordered) (rw i.0 (omega arith)) in
    rw (i.0, i.1) at (i.2 ∙ all)
