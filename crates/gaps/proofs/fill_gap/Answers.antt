-- `gaps::fill_gap` meets its contract: the rows before i are written.
use mathlib.Core.Path.{refl, ◌∙◌}
use native.Mathlib.Omega.{arith}
use Rattle.base.proofs.Filling.{rows_none, rows_room, rows_more, rows_all}
use Rattle.least_depths.proofs.RowCounts.{cell_is}
use Rattle.leaf_orders.specs.inner.LeafOrders.{at}
use Rattle.gaps.specs.Operations.{gaps}
use Rattle.gaps.proofs.fill_gap.Invariants.{gap_at}
use Rattle.gaps.proofs.fill_gap.Goals as goal

pub loop-i-init : goal.loop-i-init
loop-i-init g c =
    let made = c.fill.ensures in
    rw c.first-row.ensures.0 (made.0, made.1 ∙ c.new-order.ensures.1, rows_none _ _ _)

pub seek-requires : goal.seek-requires
seek-requires g c =
    let i = c.loop-i.invariant in
    c.loop-i.row.order.now.ordered.place_below c.loop-i.i (rw i.0 c.loop-i-test.true)

pub subtract_row-requires : goal.subtract_row-requires
subtract_row-requires g c =
    let i = c.loop-i.invariant in
    let room = rows_room _ _ c.args.n c.loop-i.i (omega arith) c.requires.4 i.2 in
    rw (c.seek.ensures.0, i.0, c.requires.2, room) (c.requires.0, omega arith, c.requires.4)

pub loop-i-preserved : goal.loop-i-preserved
loop-i-preserved g c =
    let l = c.loop-i in
    let i = l.invariant in
    let o = l.row.order.now in
    let p = at o.places l.i in
    let here = o.ordered.leaf_there l.i (rw i.0 c.loop-i-test.true) in
    let row = rw (c.seek.ensures.0, c.seek.ensures.1) at c.subtract_row.ensures in
    let cells = row.cells (gap_at o.n g.row.SCALE c.args.cells.now o.listing.now) c.args.out.now (λ j lj.
    rw (cell_is o p j lj) refl) (rw (here, i.0, i.1) i.2) in
    rw c.seek.ensures.0 (i.0, i.1, rows_more _ _ c.args.n l.i (rw (here, i.0, i.1) at cells))

pub returns : goal.returns
unfolding gaps
returns g c =
    let i = c.loop-i in
    rows_all _ _ c.args.n i.i (omega arith) i.invariant.2
