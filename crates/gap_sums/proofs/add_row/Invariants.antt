-- `gap_sums::add_row` meets its contract. The loop's invariant: the columns passed have the gaps of the row besides.
use mathlib.Core.Path.{◌≡◌}
use Prim.Native.Nat.{◌+◌, ◌≤◌}
use lib.ListN.{get_or}
use Rattle.base.specs.Numbers.{distance}
use Rattle.base.specs.Lists.{filled}
use Rattle.gap_sums.proofs.add_row.Given as goal

abbrev pub invariant-loop-y : goal.invariant-loop-y
invariant-loop-y l =
    (l.y ≤ l.n) × (l.columns
    ≡ filled l.y (λ k. get_or l.initial.columns k 0 + distance (get_or l.row k 0) (get_or l.due k 0 + l.m))
    l.initial.columns)
