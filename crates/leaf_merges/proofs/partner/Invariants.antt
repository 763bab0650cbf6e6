-- `leaf_merges::partner` meets its contract. The loop's invariant: no label passed may be merged with `a`.
use Prim.Native.Nat.{ℕ, ◌<◌}
use Rattle.leaf_merges.specs.inner.Partners.{Joins}
use Rattle.leaf_merges.proofs.partner.Given as goal

abbrev pub invariant-loop-b : goal.invariant-loop-b
invariant-loop-b g l =
    (i : ℕ) → i < l.b → l.a < i
    → Joins l.n (g.T.Table.cells l.table l.n) l.arrays.label l.arrays.m l.arrays.sizes l.p l.a i → ⊥
