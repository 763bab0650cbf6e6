-- `leaf_orders::count_leaves` meets its contract: before row k the sizes under the numbers below n + k are there.
use mathlib.Core.Path.{◌≡◌}
use Prim.Native.Nat.{◌+◌}
use lib.ListN.{length}
use Rattle.limits.specs.Limits.{most_nodes}
use Rattle.trees.specs.Trees.{size}
use Rattle.listings.proofs.Entries.{Seen}
use Rattle.leaf_orders.proofs.count_leaves.Given as goal

abbrev pub invariant-loop-k : goal.invariant-loop-k
invariant-loop-k l = (length l.sizes ≡ most_nodes) × Seen size 0 l.n l.listing l.sizes (l.n + l.k)
