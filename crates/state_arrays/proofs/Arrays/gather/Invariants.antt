-- `state_arrays::Arrays::gather` meets its contract. The loop's invariant: the leaves passed are as the rules say.
use mathlib.Core.Path.{◌≡◌}
use Rattle.state_arrays.specs.inner.Merged.{Gathered}
use Rattle.state_arrays.proofs.Arrays.gather.Given as goal

abbrev pub invariant-loop-x : goal.invariant-loop-x
invariant-loop-x l =
    let old = l.initial.self in
    Gathered l.x old.label old.m l.self.label l.self.m l.a l.b l.pa l.pb × (l.self.sizes ≡ old.sizes)
