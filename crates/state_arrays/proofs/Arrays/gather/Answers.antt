-- `state_arrays::Arrays::gather` meets its contract. The loop's invariant: the leaves passed are as the rules say.
use mathlib.Core.Path.{refl, ap}
use Prim.Native.Nat.{◌+◌}
use native.Mathlib.Omega.{arith}
use lib.ListN.{get_or}
use Rattle.pair_counts.proofs.Pairs.{P_most}
use Rattle.state_arrays.specs.inner.Fits.{largest_sum}
use Rattle.state_arrays.proofs.Merged.{growth_le, gather_none, m_next, gather_turn, gather_end}
use Rattle.state_arrays.proofs.Arrays.gather.Goals as goal

pub loop-x-init : goal.loop-x-init
loop-x-init c = (gather_none _ _ _ _ _ _, refl)

pub overflow_add-self : goal.overflow_add-self
overflow_add-self c =
    let l = c.loop-x in
    omega (
      arith,
      P_most,
      c.requires.3 l.x (omega arith),
      m_next _ _ _ _ _ _ l.invariant.0 (omega arith),
      c.grow.ensures,
      growth_le (get_or l.self.label l.x 0) c.args.a c.args.b c.args.pa c.args.pb largest_sum c.requires.4 c.requires.5,
    )

pub loop-x-preserved : goal.loop-x-preserved
loop-x-preserved c =
    let l = c.loop-x in
    let sum = ap (λ z. get_or l.self.m l.x 0 + z) c.grow.ensures in (
      gather_turn _ _ _ _ _ _ l.invariant.0 _ _ (omega arith) (omega arith) c.relabel.ensures sum,
      l.invariant.1,
    )
