-- `leaf_merges::merge_leaves` meets its contract. The loop's invariant: the subtrees of the leaves from t on have been
-- merged.
use Prim.Native.Nat.{◌≤◌}
use Rattle.state_arrays.specs.inner.Fits.{counts_scale}
use Rattle.leaf_merges.specs.inner.LeafMerges.{LeavesMerged}
use Rattle.leaf_merges.proofs.merge_leaves.Given as goal

abbrev pub invariant-loop-t : goal.invariant-loop-t
invariant-loop-t g l =
    (1 ≤ l.t) × LeavesMerged l.n (counts_scale l.p) (g.T.Table.cells l.table l.n) l.arrays.label l.arrays.m
    l.arrays.sizes l.rows.names l.rows.rows l.rows.made l.t
