-- `own_rebuild::one_subtree_fits` meets its contract. The loop's invariant: the leaves passed are as they
-- should be.
use mathlib.Core.Path.{◌≡◌}
use Prim.Native.Nat.{ℕ, ◌≤◌, ◌<◌}
use lib.ListN.{get_or}
use Rattle.own_rebuild.proofs.one_subtree_fits.Given as goal

abbrev pub invariant-loop-k : goal.invariant-loop-k
invariant-loop-k g l =
    (i : ℕ) → i < l.k → 1 ≤ i
    → (get_or l.arrays.label i 0 ≡ 1) × (get_or (g.T.Table.cells l.table l.n) i 0 ≡ get_or l.arrays.m i 0)
