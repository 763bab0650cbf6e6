-- `state_arrays::scaled_counts` meets its contract. The loop's invariant: the pair counts passed are scaled.
use mathlib.Core.Path.{◌≡◌}
use Prim.Native.Nat.{◌+◌, ◌*◌}
use Rattle.base.specs.Lists.{tab, filled}
use Rattle.limits.specs.Limits.{most_leaves}
use Rattle.pair_counts.specs.Pairs.{P}
use Rattle.state_arrays.proofs.scaled_counts.Given as goal

abbrev pub invariant-loop-count : goal.invariant-loop-count
invariant-loop-count l =
    (l.initial.count-items ≡ tab (most_leaves + 1) P)
    × (l.count-items ≡ filled l.count-index (λ j. l.scale * P j) l.initial.count-items)
