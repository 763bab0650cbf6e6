-- `gap_sums::fill_outside` meets its contract. The loop's invariant: the columns passed are found.
use mathlib.Core.Path.{◌≡◌}
use Prim.Native.Nat.{◌≤◌}
use lib.ListN.{length}
use Rattle.limits.specs.Limits.{most_leaves}
use Rattle.gap_sums.proofs.Columns.{ColumnsTo}
use Rattle.gap_sums.proofs.fill_outside.Given as goal

abbrev pub invariant-loop-y : goal.invariant-loop-y
invariant-loop-y l =
    (l.y ≤ l.n) × (length l.columns ≡ most_leaves)
    × ColumnsTo l.n l.table l.arrays.label l.arrays.m l.a l.due l.y l.columns
