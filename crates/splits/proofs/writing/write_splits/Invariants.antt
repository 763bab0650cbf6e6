-- `splits::writing::write_splits` meets its contract: before row k the array holds the set of every number below n + k,
-- and the output the sets of the first k nodes.
use mathlib.Core.Path.{◌≡◌}
use mathlib.Core.List.{[], ◌++◌}
use Prim.Native.Nat.{◌+◌, ◌*◌}
use lib.ListN.{length, drop}
use Rattle.limits.specs.Limits.{most_nodes, set_bytes}
use Rattle.listings.proofs.Entries.{Seen}
use Rattle.splits.specs.inner.NodeSets.{set_of_subtree, node_sets}
use Rattle.splits.proofs.writing.write_splits.Given as goal

abbrev pub invariant-loop-k : goal.invariant-loop-k
invariant-loop-k l =
    (length l.under ≡ most_nodes)
    × Seen set_of_subtree [] l.n l.rows l.under (l.n + l.k)
    × (l.out ≡ node_sets l.n l.rows l.k ++ drop (set_bytes * l.k) l.initial.out)
