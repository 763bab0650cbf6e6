-- `guess_merges::put_block` meets its contract: the rows of either subtree write the same cells.
use mathlib.Core.Path.{sym}
use Prim.Native.Nat.{◌+◌, ◌-◌}
use native.Mathlib.Omega.{arith}
use lib.ListN.{get_or}
use Rattle.guess_merges.proofs.Blocks.{block_across, values_across}
use Rattle.guess_merges.proofs.put_block.Goals as goal

pub returns-then-second-first : goal.returns-then-second-first
returns-then-second-first c =
    block_across c.requires.3 c.put_rows.ensures
