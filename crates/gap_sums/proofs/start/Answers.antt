-- `gap_sums::start` meets its contract. The loop's invariant: the sums of the leaves passed are stored.
use mathlib.Core.Path.{◌≡◌}
use native.Mathlib.Omega.{arith}
use Rattle.gap_sums.proofs.Columns.{start_turn}
use Rattle.gap_sums.proofs.start.Goals as goal

pub loop-j-preserved : goal.loop-j-preserved
loop-j-preserved c =
    start_turn c.row_of.ensures.cells (omega arith) c.loop-j.invariant c.start_row.ensures
