-- The table that a rebuild is lent in bytes.
use Rattle.std.specs.Prelude.{cond, List, [], ℕ}
use Rattle.packed_tables.specs.Packed.{table_with, packed_cells}
use Rattle.packed_tables.specs.Operations.{is_packed}

-- where the bytes B are a packed table of n leaves, the table that they mean; else no cells
unfoldable pub table_in : ℕ → List ℕ → List ℕ
table_in n B = cond (is_packed n B) (table_with n (packed_cells n B)) []
