-- What is read of a packed table, whatever is lent: where the sizes or the leaves are wrong, nothing.
use Rattle.std.specs.Prelude.{Bool, cond, ◌&&◌, List, ℕ, ◌-◌, ◌*◌, ltb, leb, eqb, length}
use Rattle.base.specs.Lists.{filled}
use Rattle.limits.specs.Limits.{most_leaves}
use Rattle.packed_tables.specs.Packed.{mirrored, packed_cells}

-- the bytes B are a packed table of n leaves
unfoldable pub is_packed : ℕ → List ℕ → Bool
is_packed n B = (leb 3 n && leb n most_leaves) && eqb (length B) (n * (n - 1))

-- cell (i, j) of it; else 0
unfoldable pub packed_cell : ℕ → List ℕ → ℕ → ℕ → ℕ
packed_cell n B i j = cond (is_packed n B && (ltb i n && ltb j n)) (mirrored n (packed_cells n B) i j) 0

-- a buffer with row i of it at its front, where it has room; else as it was
unfoldable pub with_packed_row : ℕ → List ℕ → ℕ → List ℕ → List ℕ
with_packed_row n B i out =
    cond (is_packed n B && (ltb i n && leb n (length out))) (filled n (mirrored n (packed_cells n B) i) out) out
