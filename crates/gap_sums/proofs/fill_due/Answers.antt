-- `gap_sums::fill_due` meets its contract. The loop's invariant: the leaves passed have what is expected of them.
use mathlib.Core.Path.{◌≡◌, sym}
use Prim.Native.Nat.{◌<◌}
use native.Mathlib.Omega.{arith}
use lib.ListN.{length}
use Rattle.base.proofs.Filling.{filled_none, filled_more}
use Rattle.gap_sums.proofs.Columns.{due_is}
use Rattle.gap_sums.proofs.fill_due.Goals as goal

pub loop-y-init : goal.loop-y-init
loop-y-init c = (omega arith, sym (filled_none _ _))

pub loop-y-preserved : goal.loop-y-preserved
loop-y-preserved c =
    let l = c.loop-y in
    let room : l.y < length c.args.due.now = omega (arith, c.requires.1, c.requires.0.few) in (
      omega arith,
      filled_more _ _ l.invariant.1 room
          (due_is _ _ _ _ _ _ l.y c.due_of.ensures),
    )
