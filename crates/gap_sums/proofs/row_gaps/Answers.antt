-- `gap_sums::row_gaps` meets its contract. The loop's invariant: `low` and `high` are together the sum over the cells
-- passed.
use mathlib.Core.Path.{◌≡◌, refl}
use native.Mathlib.Omega.{arith}
use Rattle.base.specs.Numbers.{sum_below}
use Rattle.pair_counts.proofs.Pairs.{P_most}
use Rattle.gap_sums.proofs.Columns.{sum_turn}
use Rattle.gap_sums.proofs.row_gaps.Goals as goal

pub loop-x-init : goal.loop-x-init
unfolding sum_below
loop-x-init c = (omega arith, refl, omega arith, omega arith)

pub overflow_add-due : goal.overflow_add-due
overflow_add-due c =
    omega (arith, P_most, c.requires.2 c.loop-x.x (omega arith))

pub loop-x-preserved : goal.loop-x-preserved
loop-x-preserved c =
    let l = c.loop-x in
    let next = sum_turn _ l.x l.invariant.1 c.gap_of-gap.ensures.0 in (
      omega arith,
      omega (arith, next),
      omega (arith, l.invariant.2),
      omega (arith, l.invariant.3, c.gap_of-gap.ensures.1),
    )
