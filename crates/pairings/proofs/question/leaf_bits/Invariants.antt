-- `pairings::question::leaf_bits` meets its contract: before turn i the first i of the leaves have their bits.
use mathlib.Core.Path.{◌≡◌}
use lib.ListN.{replicate}
use Rattle.limits.specs.Limits.{most_nodes}
use Rattle.pairings.proofs.Sides.{puts}
use Rattle.pairings.proofs.question.leaf_bits.Given as goal

abbrev pub invariant-loop-i : goal.invariant-loop-i
invariant-loop-i l = l.under ≡ puts l.q (replicate most_nodes 0) l.i
