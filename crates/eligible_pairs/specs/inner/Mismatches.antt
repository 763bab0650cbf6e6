-- Cells that are not as expected: what the tests of a row count. Each leaf k has a label, `label k`, the least leaf of
-- its subtree, and its number m, `m k`.
use Rattle.std.specs.Prelude.{Bool, not, ◌&&◌, List, ℕ, ◌+◌, eqb, get_or}
use Rattle.trees.specs.Tables.{cell}

-- a leaf labelled l is in the subtree labelled b, and its cell w is not the value v expected
unfoldable pub mismatch : ℕ → ℕ → ℕ → ℕ → Bool
mismatch l b w v = eqb l b && not (eqb w v)

-- so it is with leaf y, where its cell is that of a row of cells, and e + m(y) is expected
unfoldable pub mismatch_in : List ℕ → List ℕ → List ℕ → ℕ → ℕ → ℕ → Bool
mismatch_in row label m b e y = mismatch (get_or label y 0) b (get_or row y 0) (e + get_or m y 0)

-- so it is in row x of the table t
unfoldable pub mismatch_at : ℕ → List ℕ → List ℕ → List ℕ → ℕ → ℕ → ℕ → ℕ → Bool
mismatch_at n t label m x b e y = mismatch (get_or label y 0) b (cell n t x y) (e + get_or m y 0)
