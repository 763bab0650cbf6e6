-- `gap_sums::due_of` meets its contract: two subtrees have no more than n leaves, and no sum wraps.
use mathlib.Core.Path.{refl}
use Prim.Native.Nat.{◌+◌, ◌-◌}
use native.Mathlib.Omega.{arith}
use lib.ListN.{get_or}
use Rattle.pair_counts.proofs.Pairs.{P_most}
use Rattle.gap_sums.proofs.due_of.Goals as goal

pub overflow_add-result-else-b-a : goal.overflow_add-result-else-b-a
overflow_add-result-else-b-a c =
    let a = c.args in
    omega (
      arith,
      P_most,
      c.requires.4 (a.n - (get_or a.sizes.now a.a 0 + get_or a.sizes.now a.b 0))
          (omega arith),
    )
