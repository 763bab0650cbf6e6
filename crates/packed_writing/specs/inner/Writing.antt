-- What becomes of a packed table when a cell of it is written. No public contract cites it.
use Rattle.std.specs.Prelude.{◌≡◌, List, ℕ, ◌<◌, length}
use Rattle.packed_tables.specs.Packed.{mirrored, packed_cells}

-- the bytes B became B': cell (i, j) and its mirror cell are v, and the others are as they were
pub record CellPut (n : ℕ) (B B' : List ℕ) (i j v : ℕ) : Type 0 where
  pub long : length B' ≡ length B
  pub there : mirrored n (packed_cells n B') i j ≡ v
  pub mirror : mirrored n (packed_cells n B') j i ≡ v
  pub elsewhere :
      (x y : ℕ) → x < n → y < n → (x ≡ i → y ≡ j → ⊥) → (x ≡ j → y ≡ i → ⊥)
      → mirrored n (packed_cells n B') x y ≡ mirrored n (packed_cells n B) x y
