-- `eligible_pairs::block_fits` meets its contract. The loop's invariant: the rows passed have no wrong cell.
use mathlib.Core.Path.{◌≡◌}
use mathlib.Core.List.{List}
use Prim.Native.Nat.{ℕ, ◌+◌, ◌<◌}
use lib.ListN.{get_or}
use Rattle.trees.specs.Tables.{cell}
use Rattle.eligible_pairs.proofs.block_fits.Given as goal

-- row x has no wrong cell of a leaf of b, if x is in a
abbrev pub RowFits : ℕ → List ℕ → List ℕ → List ℕ → ℕ → ℕ → ℕ → ℕ → Type 0
RowFits n t label m a b e x =
    get_or label x 0 ≡ a → (y : ℕ) → y < n → get_or label y 0 ≡ b → cell n t x y ≡ (e + get_or m x 0) + get_or m y 0

abbrev pub invariant-loop-x : goal.invariant-loop-x
invariant-loop-x g l =
    (i : ℕ) → i < l.x → RowFits l.n (g.T.Table.cells l.table l.n) l.arrays.label l.arrays.m l.a l.b l.e i
