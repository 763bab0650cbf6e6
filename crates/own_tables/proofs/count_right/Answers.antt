-- `own_tables::count_right` meets its contract: the right cells before column j are counted.
use mathlib.Core.Path.{refl, ◌∙◌}
use Prim.Native.Nat.{◌≤◌}
use native.Mathlib.Numerals.{add-one}
use native.Mathlib.Omega.{arith}
use Rattle.base.specs.Numbers.{count_below}
use Rattle.base.proofs.Counts.{count_le, count_suc, indicator_le}
use Rattle.own_tables.proofs.Rows.{bool_as}
use Rattle.own_tables.proofs.count_right.Goals.{At-loop-j}
use Rattle.own_tables.proofs.count_right.Goals as goal

pub loop-j-init : goal.loop-j-init
unfolding count_below
loop-j-init c = refl

-- no more cells are right than are counted
few : (l : At-loop-j) → l.loop-j.right ≤ l.loop-j.j
few l = rw l.loop-j.invariant (count_le l.loop-j.j _)

pub overflow_add-right : goal.overflow_add-right
overflow_add-right c =
    let less : c.from-right.result ≤ 1 = rw (c.from-right.ensures, bool_as) (indicator_le _ 1) in
    omega (arith, few (goal.at.overflow_add-right c).At-loop-j, less, c.args.row.now.order.now.ordered.few)

pub loop-j-preserved : goal.loop-j-preserved
loop-j-preserved c =
    let i = c.loop-j in
    let one = c.from-right.ensures ∙ bool_as _ in
    rw (i.invariant, one, c.count_at.ensures, c.leaf.ensures.0, add-one i.j, count_suc) refl
