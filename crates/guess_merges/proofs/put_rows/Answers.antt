-- `guess_merges::put_rows` meets its contract. The loop's invariant: the rows passed are written.
use mathlib.Core.Path.{◌≡◌, sym, ◌∙◌}
use Prim.Native.Nat.{◌-◌, ◌<◌}
use native.Mathlib.Omega.{arith}
use Rattle.pair_counts.proofs.Pairs.{P_most}
use Rattle.guess_merges.proofs.Blocks.{block_start, block_skip, block_turn}
use Rattle.guess_merges.proofs.put_rows.Goals as goal

pub overflow_add-e : goal.overflow_add-e
overflow_add-e c =
    omega (arith, P_most, c.requires.2 c.loop-x.x (omega arith))
