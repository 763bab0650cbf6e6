-- `gap_sums::add_columns` meets its contract. The loop's invariant: each label has the columns passed that are its.
use mathlib.Core.Path.{◌≡◌}
use Prim.Native.Nat.{ℕ, ◌≤◌, ◌<◌}
use lib.ListN.{length, get_or}
use lib.Dec.{eqb}
use Rattle.base.specs.Numbers.{indicator, sum_below}
use Rattle.limits.specs.Limits.{most_leaves}
use Rattle.gap_sums.proofs.add_columns.Given as goal

abbrev pub invariant-loop-y : goal.invariant-loop-y
invariant-loop-y l =
    (l.y ≤ l.n) × (length l.sums ≡ most_leaves)
    × ((k : ℕ) → k < l.n
    → get_or l.sums k 0 ≡ sum_below l.y (λ x. indicator (eqb (get_or l.label x 0) k) (get_or l.columns x 0)))
