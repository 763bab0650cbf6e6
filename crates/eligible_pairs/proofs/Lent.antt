-- The tables that are lent: their cells and rows as code reads them.
use mathlib.Core.Path.{◌≡◌, sym, ◌∙◌}
use mathlib.Core.Bool.{true, false}
use mathlib.Core.List.{List, []}
use mathlib.Core.Logic.{inl, inr}
use Prim.Native.Nat.{ℕ, ◌+◌, ◌-◌, ◌*◌, ◌≤◌, ◌<◌}
use native.Mathlib.Nat.{mul-le-mul_right, suc-mul, zero-mul, zero-add}
use native.Mathlib.Omega.{arith}
use lib.ListN.{length, get_or, take, drop}
use lib.Seq.{get_or-take, get_or-drop}
use Rattle.base.specs.Numbers.{count_below}
use Rattle.base.proofs.Bools.{bool?}
use Rattle.base.proofs.Counts.{count_ext}
use Rattle.base.proofs.Filling.{getD_filled}
use Rattle.limits.specs.Limits.{most_leaves, most_cells}
use Rattle.limits.proofs.TablePlaces.{square_small}
use Rattle.trees.specs.Tables.{cell}
use Rattle.packed_tables.specs.Packed.{mirrored, table_with, packed_cells, Packed}
use Rattle.packed_tables.specs.Operations.{is_packed, packed_cell, with_packed_row}
use Rattle.packed_tables.proofs.PackedIsTable.{cell_is}
use Rattle.packed_tables.proofs.Sizes.{passed_packed, cell_read, row_read}
use Rattle.eligible_pairs.specs.inner.Lent.{table_in}
use Rattle.eligible_pairs.specs.inner.Mismatches.{mismatch_in, mismatch_at}

-- bytes with as many cells as a table of n leaves are a packed one
module _ (n : ℕ) (B : List ℕ) where
  pub as_packed : is_packed n B ≡ true → table_in n B ≡ table_with n (packed_cells n B)
  unfolding table_in
  as_packed h = rw h

  none_without : is_packed n B ≡ false → table_in n B ≡ []
  unfolding table_in
  none_without h = rw h

  pub meant_packed : length (table_in n B) ≡ n * n → 0 < n → Packed n B
  meant_packed many some = elim (bool? (is_packed n B)) [
    | inl h ↦ passed_packed n B h
    | inr h ↦
        let none : 0 ≡ n * n = rw (none_without h) at many in
        absurd (omega (arith, none, mul-le-mul_right n some))
  ]

-- cells of a packed table: one, and a row that was copied to the front of a buffer
module _ (n : ℕ) (B : List ℕ) (p : Packed n B) where
  pub packed_cell_is :
      (i j : ℕ) → i < n → j < n → packed_cell n B i j ≡ cell n (table_with n (packed_cells n B)) i j
  packed_cell_is i j hi hj = cell_read n B p i j hi hj ∙ sym (cell_is n (packed_cells n B) i j hi hj)

  pub packed_row_is :
      (x : ℕ) (buffer : List ℕ) → x < n → n ≤ length buffer → (y : ℕ) → y < n
      → get_or (take n (with_packed_row n B x buffer)) y 0 ≡ cell n (table_with n (packed_cells n B)) x y
  packed_row_is x buffer hx room y hy =
      let cells = packed_cells n B in
      rw (row_read n B p x buffer hx room)
      (get_or-take n _ y 0 hy
      ∙ getD_filled (mirrored n cells x) buffer n y 0 hy
      ∙ sym (cell_is n cells x y hx hy))

-- row x of a table of cells
pub row_is :
    (n : ℕ) (t : List ℕ) (x y : ℕ) → y < n → get_or (take (x * n + n - x * n) (drop (x * n) t)) y 0 ≡ cell n t x y
unfolding cell
row_is n t x y hy = get_or-take (x * n + n - x * n) (drop (x * n) t) y 0 (omega arith) ∙ get_or-drop (x * n) t y 0

pub first_row : (n : ℕ) (t : List ℕ) (k : ℕ) → cell n t 0 k ≡ get_or t k 0
unfolding cell
first_row n t k = rw (zero-mul n, zero-add k)

-- the wrong cells of a row are those of row x, where the row is that
pub row_counts :
    (n : ℕ) (t row label m : List ℕ) (x b e : ℕ) → ((y : ℕ) → y < n → get_or row y 0 ≡ cell n t x y)
    → count_below n (mismatch_in row label m b e) ≡ count_below n (mismatch_at n t label m x b e)
unfolding mismatch_in mismatch_at
row_counts n t row label m x b e h =
    count_ext n (mismatch_in row label m b e) (mismatch_at n t label m x b e) (λ y l. rw (h y l))
