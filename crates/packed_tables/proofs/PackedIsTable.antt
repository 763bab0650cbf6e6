-- The table that has certain cells above the diagonal: its cells; and it has a zero diagonal and equal halves, whatever
-- they are: 4 and 5 never arise from a sheet.
use mathlib.Core.Path.{◌≡◌, sym, ◌∙◌}
use mathlib.Core.List.{List}
use Prim.Native.Nat.{ℕ, ◌<◌}
use native.Mathlib.Omega.{arith}
use native.Mathlib.Decide.{dec_lt}
use borrow.Author.Tests.{lt-ltb, le-ltb}
use lib.ListN.{get_or}
use Rattle.trees.specs.Tables.{cell, IsTable}
use Rattle.trees.proofs.Tables.{rule_cell, rule_is_table}
use Rattle.packed_tables.specs.Packed.{cells_before, mirrored, table_with}

module _ (n : ℕ) (c : List ℕ) where
  pub on_diagonal : (i : ℕ) → mirrored n c i i ≡ 0
  unfolding mirrored
  on_diagonal i = rw (le-ltb i i (omega arith))

  pub above_diagonal : (i j : ℕ) → i < j → mirrored n c i j ≡ get_or c (cells_before n i j) 0
  unfolding mirrored
  above_diagonal i j l = rw (lt-ltb i j l)

  pub below_diagonal : (i j : ℕ) → j < i → mirrored n c i j ≡ get_or c (cells_before n j i) 0
  unfolding mirrored
  below_diagonal i j l = rw (le-ltb i j (omega arith), lt-ltb j i l)

  both_sides : (i j : ℕ) → i < j → mirrored n c i j ≡ mirrored n c j i
  both_sides i j l = above_diagonal i j l ∙ sym (below_diagonal j i l)

  -- the halves are equal
  pub both_ways : (i j : ℕ) → mirrored n c i j ≡ mirrored n c j i
  both_ways i j = elim (dec_lt i j) [
    | yes l ↦ both_sides i j l
    | no g ↦ elim (dec_lt j i) [
      | yes l ↦ sym (both_sides j i l)
      | no f ↦ (let e : i ≡ j = omega arith in rw e)
    ]
  ]

  pub cell_is : (i j : ℕ) → i < n → j < n → cell n (table_with n c) i j ≡ mirrored n c i j
  unfolding table_with
  cell_is = rule_cell n (mirrored n c)

  pub sheet_is_table : IsTable n (table_with n c)
  unfolding table_with
  sheet_is_table = rule_is_table n (mirrored n c) (λ i l. on_diagonal i) (λ i j l m. both_sides i j l)
