-- `gap_sums::fill_due` meets its contract. The loop's invariant: the leaves passed have what is expected of them.
use mathlib.Core.Path.{◌≡◌}
use Prim.Native.Nat.{◌≤◌}
use Rattle.base.specs.Lists.{filled}
use Rattle.gap_sums.specs.inner.GapSums.{due_at}
use Rattle.gap_sums.proofs.fill_due.Given as goal

abbrev pub invariant-loop-y : goal.invariant-loop-y
invariant-loop-y l =
    let arrays = l.arrays in
    (l.y ≤ l.n) × (l.due ≡ filled l.y (due_at l.n arrays.label arrays.m arrays.sizes l.p l.a) l.initial.due)
