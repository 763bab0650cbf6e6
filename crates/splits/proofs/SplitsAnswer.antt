-- What is written: the splits of the tree, and what stood behind them.
use mathlib.Core.Path.{◌≡◌}
use mathlib.Core.List.{List, ◌++◌}
use Prim.Native.Nat.{ℕ}
use lib.ListN.{length, drop}
use Rattle.trees.specs.Listings.{tree_of, standard}
use Rattle.trees.specs.Splits.{split_bytes}
use Rattle.trees.proofs.Splits.{split_bytes_many}
use Rattle.splits.specs.inner.NodeSets.{with_sets}
use Rattle.splits.proofs.SplitsWritten.{standard_sets}

pub splits_end :
    (n : ℕ) (l out : List ℕ)
    → with_sets n (standard n (tree_of n l)) out
    ≡ split_bytes n (tree_of n l) ++ drop (length (split_bytes n (tree_of n l))) out
splits_end n l out = rw (split_bytes_many n (tree_of n l), standard_sets n (tree_of n l))
