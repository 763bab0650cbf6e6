-- `numbers::own_numbers` meets its contract. The loop's invariant: the numbers of the leaves passed are filled in.
use mathlib.Core.Path.{refl, sym}
use native.Mathlib.Omega.{arith}
use Rattle.base.proofs.Filling.{filled_none, filled_more}
use Rattle.numbers.proofs.own_numbers.Goals as goal

pub loop-i-init : goal.loop-i-init
loop-i-init c = sym (filled_none (λ k. k) _)

pub loop-i-preserved : goal.loop-i-preserved
loop-i-preserved c = filled_more (λ k. k) _ c.loop-i.invariant (omega arith) refl
