-- The table of a sheet (01, "The strain sheet"): the cells above the diagonal, which the sheet has, mirrored below it.
use Rattle.std.specs.Prelude.{List, ℕ, ◌*◌}
use Rattle.refusals.specs.Refusals.{Answer, answered}
use Rattle.packed_tables.specs.Packed.{table_with}
use Rattle.sheet_rules.specs.Sheets.{leaves_of, cells_of}
use Rattle.sheet_rules.specs.Operations.{sheet_refusal}

-- the table of a sheet: 13, 1, 14, 3, 15, 16
unfoldable pub sheet_table_answer : (S : List ℕ) (room : ℕ) → Answer (List ℕ)
sheet_table_answer S room =
    answered (sheet_refusal S (leaves_of S * leaves_of S) room) (table_with (leaves_of S) (cells_of S))
