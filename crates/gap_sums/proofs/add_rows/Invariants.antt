-- `gap_sums::add_rows` meets its contract. The loop's invariant: each column is the sum over the rows passed.
use mathlib.Core.Path.{◌≡◌}
use Prim.Native.Nat.{ℕ, ◌≤◌, ◌<◌}
use lib.ListN.{length, get_or}
use Rattle.base.specs.Numbers.{sum_below}
use Rattle.limits.specs.Limits.{most_leaves}
use Rattle.gap_sums.specs.inner.GapSums.{gap_in}
use Rattle.gap_sums.proofs.add_rows.Given as goal

abbrev pub invariant-loop-x : goal.invariant-loop-x
invariant-loop-x l =
    (l.x ≤ l.n) × (length l.columns ≡ most_leaves)
    × ((y : ℕ) → y < l.n → get_or l.columns y 0
    ≡ sum_below l.x (gap_in l.n l.table l.arrays.label l.arrays.m l.a (get_or l.due y 0) y))
