-- `numbers::own_numbers` meets its contract. The loop's invariant: the numbers of the leaves passed are filled in.
use mathlib.Core.Path.{◌≡◌}
use Rattle.base.specs.Lists.{filled}
use Rattle.numbers.proofs.own_numbers.Given as goal

abbrev pub invariant-loop-i : goal.invariant-loop-i
invariant-loop-i l = l.numbers ≡ filled l.i (λ k. k) l.initial.numbers
