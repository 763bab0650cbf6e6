-- `splits::writing::put_leaves` meets its contract: before turn k the first k entries are known.
use mathlib.Core.Path.{◌≡◌}
use mathlib.Core.List.{[]}
use lib.ListN.{length}
use Rattle.base.proofs.Filling.{Known}
use Rattle.limits.specs.Limits.{most_nodes}
use Rattle.trees.specs.Trees.{leaf}
use Rattle.splits.specs.inner.NodeSets.{set_of_subtree}
use Rattle.splits.proofs.writing.put_leaves.Given as goal

abbrev pub invariant-loop-k : goal.invariant-loop-k
invariant-loop-k l =
    (length l.under ≡ most_nodes) × Known (λ i. set_of_subtree (leaf i)) [] l.under l.k
