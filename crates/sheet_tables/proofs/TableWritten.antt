-- The table that is written, c being the sheet's cells.
use mathlib.Core.Path.{◌≡◌}
use mathlib.Core.List.{List, ◌++◌}
use Prim.Native.Nat.{ℕ, ◌*◌}
use lib.ListN.{length, drop}
use Rattle.base.specs.Lists.{filled}
use Rattle.base.proofs.Lists.{length_tab}
use Rattle.packed_tables.specs.Packed.{table_with}
use Rattle.sheet_rules.specs.Sheets.{leaves_of, cells_of}
use Rattle.sheet_tables.specs.inner.Rows.{table_rule}

pub table_written :
    (S out : List ℕ) {c : List ℕ} → c ≡ cells_of S
    → (let n = leaves_of S in
    let t = table_with n (cells_of S) in filled (n * n) (table_rule n c) out ≡ t ++ drop (length t) out)
unfolding table_with filled
table_written S out f = rw (f, length_tab (leaves_of S * leaves_of S))
