-- Bytes that are a packed table: what the test says; and a cell and a row, where the sizes and the leaves are right.
use mathlib.Core.Path.{◌≡◌}
use mathlib.Core.Bool.{true, ◌&&◌}
use mathlib.Core.List.{List}
use Prim.Native.Nat.{ℕ, ◌-◌, ◌*◌, ◌≤◌, ◌<◌}
use borrow.Author.Tests.{lt-ltb, le-leb, eqb-true, eq-eqb}
use lib.Dec.{leb, eqb}
use lib.ListN.{length}
use Rattle.base.specs.Lists.{filled}
use Rattle.base.proofs.Bools.{and_both}
use Rattle.limits.specs.Limits.{most_leaves}
use Rattle.checks.proofs.Sizes.{is_leaf_count}
use Rattle.packed_tables.specs.Packed.{mirrored, packed_cells, Packed}
use Rattle.packed_tables.specs.Operations.{is_packed, packed_cell, with_packed_row}

module _ (n : ℕ) (B : List ℕ) where
  pub passed_packed : is_packed n B ≡ true → Packed n B
  unfolding is_packed
  passed_packed h =
      let r = and_both (leb 3 n && leb n most_leaves) (eqb (length B) (n * (n - 1))) h in
      (is_leaf_count n r.0, eqb-true (length B) (n * (n - 1)) r.1)

  module _ (p : Packed n B) where
    pub packed_passes : is_packed n B ≡ true
    unfolding is_packed
    packed_passes =
        rw (le-leb 3 n p.0.0, le-leb n most_leaves p.0.1, eq-eqb (length B) (n * (n - 1)) p.1)

    pub cell_read : (i j : ℕ) → i < n → j < n → packed_cell n B i j ≡ mirrored n (packed_cells n B) i j
    unfolding packed_cell
    cell_read i j hi hj = rw (packed_passes, lt-ltb i n hi, lt-ltb j n hj)

    pub row_read :
        (i : ℕ) (out : List ℕ) → i < n → n ≤ length out
        → with_packed_row n B i out ≡ filled n (mirrored n (packed_cells n B) i) out
    unfolding with_packed_row
    row_read i out hi room = rw (packed_passes, lt-ltb i n hi, le-leb n (length out) room)
