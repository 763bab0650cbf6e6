-- `gap_sums::start_row` meets its contract. The loop's invariant: the sums with the leaves passed are stored.
use mathlib.Core.Path.{◌≡◌, refl}
use native.Mathlib.Omega.{arith}
use Rattle.gap_sums.proofs.Columns.{started_turn}
use Rattle.gap_sums.proofs.start_row.Goals as goal

pub loop-i-preserved : goal.loop-i-preserved
loop-i-preserved c =
    let l = c.loop-i in (
      omega arith,
      rw c.pair_place.ensures.0
          (started_turn c.requires.0 c.requires.2 (omega arith) l.invariant.1 c.apart.ensures),
    )
