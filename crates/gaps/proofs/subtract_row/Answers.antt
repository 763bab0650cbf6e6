-- `gaps::subtract_row` meets its contract: the rows before the row and j gaps of it are written.
use mathlib.Core.Path.{◌∙◌}
use native.Mathlib.Omega.{arith}
use mir.Syntax.{w64}
use mir.Facts.{to_z-of_z}
use Rattle.least_depths.proofs.RowCounts.{count_told, count_fits}
use Rattle.least_depths.proofs.Rows.{cell_place, row_begun, row_more}
use Rattle.gaps.proofs.subtract_row.Goals as goal

pub loop-j-init : goal.loop-j-init
loop-j-init g c = row_begun

pub less-requires : goal.less-requires
less-requires g c =
    let row = c.args.row.now in
    let few = count_fits row.order.now row.found c.loop-j.j c.loop-j-test.true in
    let told = count_told row.order.now row.found c.loop-j.j c.loop-j-test.true in
    (c.requires.0, omega (arith, few, told, c.count_at.ensures))

pub loop-j-preserved : goal.loop-j-preserved
loop-j-preserved g c =
    let row = c.args.row.now in
    let o = row.order.now in
    let inside = c.loop-j-test.true in
    let here = cell_place o.ordered.few (o.ordered.leaf_below row.place row.found.place) inside c.requires.2 in
    let exact = to_z-of_z {w = w64} {z = c.less.result} (record { sfits = c.less.type_inv }) in
    rw c.leaf.ensures.0
    (row_more c.loop-j.invariant inside here.1 (exact ∙ c.less.ensures ∙ rw (c.count_at.ensures, c.leaf.ensures.0)))
