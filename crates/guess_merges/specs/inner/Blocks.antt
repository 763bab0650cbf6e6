-- The table of the tree that a guess makes, written while subtrees merge: each merge writes the values expected of the
-- cells that it brings together. The bytes are a packed table; e is expected of a cell beside the m of its two leaves.
use Rattle.std.specs.Prelude.{◌≡◌, List, ℕ, ◌+◌, ◌<◌, length, get_or}
use Rattle.packed_tables.specs.Packed.{mirrored, packed_cells}

-- cell (x, y) of a packed table
abbrev pub cell_in : (n : ℕ) (B : List ℕ) (x y : ℕ) → ℕ
cell_in n B x y = mirrored n (packed_cells n B) x y

-- every value that is written fits two bytes
abbrev pub SmallValues : (n : ℕ) (label m : List ℕ) (a b e : ℕ) → Type 0
SmallValues n label m a b e =
    (x y : ℕ) → x < n → y < n → get_or label x 0 ≡ a → get_or label y 0 ≡ b → (e + get_or m x 0) + get_or m y 0 < 65536

-- the cells of leaf x and those of the first c leaves that are labelled b are written: e of each, and the leaf's m
pub record RowPut (n : ℕ) (label m : List ℕ) (x b e c : ℕ) (B B' : List ℕ) : Type 0 where
  pub long : length B' ≡ length B
  pub new : (y : ℕ) → y < c → get_or label y 0 ≡ b → cell_in n B' x y ≡ e + get_or m y 0
  pub others :
      (u v : ℕ) → u < n → v < n → (u ≡ x → get_or label v 0 ≡ b → ⊥) → (v ≡ x → get_or label u 0 ≡ b → ⊥)
      → cell_in n B' u v ≡ cell_in n B u v

-- the cells of those of the first c leaves that are labelled a, and the leaves labelled b, are written
pub record BlockPut (n : ℕ) (label m : List ℕ) (a b e c : ℕ) (B B' : List ℕ) : Type 0 where
  pub long : length B' ≡ length B
  pub new :
      (x y : ℕ) → x < c → y < n → get_or label x 0 ≡ a → get_or label y 0 ≡ b
      → cell_in n B' x y ≡ (e + get_or m x 0) + get_or m y 0
  pub others :
      (u v : ℕ) → u < n → v < n → (get_or label u 0 ≡ a → get_or label v 0 ≡ b → ⊥)
      → (get_or label v 0 ≡ a → get_or label u 0 ≡ b → ⊥) → cell_in n B' u v ≡ cell_in n B u v
