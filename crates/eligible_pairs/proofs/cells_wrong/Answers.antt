-- `eligible_pairs::cells_wrong` meets its contract. The loop's invariant: `bad` counts the wrong cells passed.
use mathlib.Core.Path.{◌≡◌, refl}
use Prim.Native.Nat.{◌+◌}
use native.Mathlib.Omega.{arith}
use Rattle.base.specs.Numbers.{count_below}
use Rattle.base.proofs.Counts.{count_le}
use Rattle.pair_counts.proofs.Pairs.{P_most}
use Rattle.eligible_pairs.specs.inner.Mismatches.{mismatch_in}
use Rattle.eligible_pairs.proofs.Mismatches.{count_turn}
use Rattle.eligible_pairs.proofs.cells_wrong.Goals as goal

pub loop-y-init : goal.loop-y-init
unfolding count_below
loop-y-init c = refl

pub overflow_add-e : goal.overflow_add-e
overflow_add-e c =
    omega (arith, P_most, c.requires.2 c.loop-y.y (omega arith))

pub overflow_add-bad : goal.overflow_add-bad
unfolding mismatch_in
overflow_add-bad c =
    let a = c.args in
    let l = c.loop-y in
    let f = mismatch_in a.row.now a.arrays.now.label a.arrays.now.m a.b a.e in
    omega (
      arith,
      count_turn f l.y l.bad c.wrong-bad.result l.invariant c.wrong-bad.ensures,
      count_le (l.y + 1) f,
    )

pub loop-y-preserved : goal.loop-y-preserved
unfolding mismatch_in
loop-y-preserved c =
    let a = c.args in
    let l = c.loop-y in
    let f = mismatch_in a.row.now a.arrays.now.label a.arrays.now.m a.b a.e in
    count_turn f l.y l.bad c.wrong-bad.result l.invariant c.wrong-bad.ensures
