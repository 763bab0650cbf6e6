-- `spanned_rows::join_rows` meets its contract: the rows before node c are done.
use Prim.Native.Nat.{◌-◌}
use native.Mathlib.Omega.{arith}
use Rattle.listings.proofs.Rows.{RowOf, row_read}
use Rattle.spanned_rows.proofs.Arrays.{joined_start, row_fits, joined_more, last_fits, joined_end}
use Rattle.spanned_rows.proofs.join_rows.Goals.{After-row_at-row}
use Rattle.spanned_rows.proofs.join_rows.Goals as goal

pub loop-c-init : goal.loop-c-init
loop-c-init c = rw c.new-joined.ensures (joined_start c.requires)

-- the row of this turn
row_of :
    (c : After-row_at-row)
    → (let a = c.args in
    let at = c.loop-c.c in
    RowOf a.n a.listing.now (at - a.n) c.row_at-row.result)
row_of c =
    let J = c.loop-c.invariant in
    row_read _ _ J.start.count J.start.keeps _ (omega (arith, J.from, c.loop-c-test.true))
    c.row_at-row.ensures

pub offset_bounds-numbers-row : goal.offset_bounds-numbers-row
offset_bounds-numbers-row c = omega (arith, (row_of c).first_before, c.loop-c.invariant.start.count)

pub bounds-numbers-row : goal.bounds-numbers-row
bounds-numbers-row c =
    let r = row_of (goal.at.bounds-numbers-row c).After-row_at-row in
    omega (arith, r.first_before, c.loop-c.invariant.start.count)

pub offset_bounds-numbers-row-in-loop-c : goal.offset_bounds-numbers-row-in-loop-c
offset_bounds-numbers-row-in-loop-c c =
    let r = row_of (goal.at.offset_bounds-numbers-row-in-loop-c c).After-row_at-row in
    omega (arith, r.second_before, c.loop-c.invariant.start.count)

pub bounds-numbers-row-in-loop-c : goal.bounds-numbers-row-in-loop-c
bounds-numbers-row-in-loop-c c =
    let r = row_of (goal.at.bounds-numbers-row-in-loop-c c).After-row_at-row in
    omega (arith, r.second_before, c.loop-c.invariant.start.count)

pub join_kept-requires : goal.join_kept-requires
join_kept-requires c =
    let r = row_of (goal.at.join_kept-requires c).After-row_at-row in
    rw (r.first_is, r.second_is) (row_fits c.loop-c.invariant c.loop-c-test.true)

pub loop-c-preserved : goal.loop-c-preserved
loop-c-preserved c =
    let r = row_of (goal.at.loop-c-preserved c).After-row_at-row in
    joined_more c.loop-c.invariant c.loop-c-test.true (rw (r.first_is, r.second_is) at c.join_kept.ensures)

pub join_kept-requires-2 : goal.join_kept-requires-2
join_kept-requires-2 c =
    last_fits c.loop-c.invariant c.loop-c-test.false

pub returns : goal.returns
returns c =
    joined_end c.loop-c.invariant c.loop-c-test.false c.join_kept-2.ensures
