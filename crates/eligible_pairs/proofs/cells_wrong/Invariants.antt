-- `eligible_pairs::cells_wrong` meets its contract. The loop's invariant: `bad` counts the wrong cells passed.
use mathlib.Core.Path.{◌≡◌}
use Rattle.base.specs.Numbers.{count_below}
use Rattle.eligible_pairs.specs.inner.Mismatches.{mismatch_in}
use Rattle.eligible_pairs.proofs.cells_wrong.Given as goal

abbrev pub invariant-loop-y : goal.invariant-loop-y
invariant-loop-y l = l.bad ≡ count_below l.y (mismatch_in l.row l.arrays.label l.arrays.m l.b l.e)
