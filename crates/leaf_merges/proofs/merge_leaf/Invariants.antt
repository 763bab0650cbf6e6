-- `leaf_merges::merge_leaf` meets its contract. The loop's invariant: the subtree of leaf t is being merged.
use Prim.Native.Nat.{◌-◌}
use Rattle.state_arrays.specs.inner.Fits.{counts_scale}
use Rattle.leaf_merges.specs.inner.LeafMerges.{MergingLeaf}
use Rattle.leaf_merges.proofs.merge_leaf.Given as goal

abbrev pub invariant-loop-k : goal.invariant-loop-k
invariant-loop-k g l =
    MergingLeaf l.n (counts_scale l.p) (g.T.Table.cells l.table l.n) l.arrays.label l.arrays.m l.arrays.sizes
    l.rows.names l.rows.rows l.rows.made l.t

abbrev pub decreases-loop-k : goal.decreases-loop-k
decreases-loop-k g l = l.n - l.rows.made
