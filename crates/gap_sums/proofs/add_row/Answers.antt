-- `gap_sums::add_row` meets its contract. The loop's invariant: the columns passed have the gaps of the row besides.
use mathlib.Core.Path.{◌≡◌, sym}
use Prim.Native.Nat.{◌<◌}
use native.Mathlib.Omega.{arith}
use lib.ListN.{length, get_or}
use Rattle.base.proofs.Filling.{filled_none, filled_more, getD_next}
use Rattle.pair_counts.proofs.Pairs.{P_most}
use Rattle.gap_sums.proofs.add_row.Goals as goal

pub loop-y-init : goal.loop-y-init
loop-y-init c = (omega arith, sym (filled_none _ _))

pub overflow_add-due : goal.overflow_add-due
overflow_add-due c =
    omega (arith, P_most, c.requires.2 c.loop-y.y (omega arith))

pub overflow_add-columns : goal.overflow_add-columns
overflow_add-columns c =
    let l = c.loop-y in
    let room : l.y < length c.args.columns.now = omega (arith, c.requires.4.long) in
    let old : get_or l.columns l.y 0 ≡ get_or c.args.columns.now l.y 0 =
    rw l.invariant.1 (getD_next _ _ l.y 0 room) in
    omega (arith, c.requires.4.small l.y (omega arith))

pub loop-y-preserved : goal.loop-y-preserved
loop-y-preserved c =
    let l = c.loop-y in
    let room : l.y < length c.args.columns.now = omega (arith, c.requires.4.long) in
    let old : get_or l.columns l.y 0 ≡ get_or c.args.columns.now l.y 0 =
    rw l.invariant.1 (getD_next _ _ l.y 0 room) in
    (omega arith, filled_more _ _ l.invariant.1 room (rw (old, c.apart.ensures.0)))
