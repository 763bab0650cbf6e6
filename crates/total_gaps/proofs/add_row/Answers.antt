-- `total_gaps::add_row` meets its contract: `low` and `high` are together the sizes before column j, added up.
use mathlib.Core.Path.{◌≡◌, ◌∙◌}
use Prim.Native.Nat.{◌+◌, ◌*◌, ◌/◌, ◌%◌, ◌≤◌, ◌<◌}
use native.Mathlib.Nat.{mul-le-mul}
use native.Mathlib.Omega.{arith}
use Rattle.leaf_orders.specs.inner.LeafOrders.{most_depth}
use Rattle.least_depths.proofs.RowCounts.{count_told, count_fits}
use Rattle.total_gaps.proofs.Totals.{sizes_begun, sizes_more}
use Rattle.total_gaps.proofs.add_row.Goals as goal

pub loop-j-init : goal.loop-j-init
loop-j-init g c = (sizes_begun, omega arith, omega arith)

pub overflow_mul-count_at : goal.overflow_mul-count_at
overflow_mul-count_at g c =
    let row = c.args.row.now in
    let inside : c.loop-j.j < row.order.now.n = omega (arith, c.leaf-i.ensures.1) in
    let few : c.count_at.result ≤ most_depth =
    omega (
      arith,
      c.count_at.ensures,
      count_told row.order.now row.found c.loop-j.j inside,
      count_fits row.order.now row.found c.loop-j.j inside,
    ) in
    omega (arith, mul-le-mul c.requires.0 few)

pub loop-j-preserved : goal.loop-j-preserved
loop-j-preserved g c =
    let l = c.loop-j in
    let d = c.apart-size.ensures in
    let next = sizes_more l.invariant.0 (d.0 ∙ rw (c.count_at.ensures, c.leaf-i.ensures.0)) d.1 in
    let halves : l.low + 65536 * l.high + c.apart-size.result
    ≡ l.low + c.apart-size.result % 65536 + 65536 * (l.high + c.apart-size.result / 65536) = omega arith in
    (rw halves at next, omega (arith, l.invariant.1), omega (arith, l.invariant.2, d.1))
