-- What the answers of a sheet's rebuild mean: the refusals that go before, then what is so of the sheet's table and its
-- trees.
use Rattle.std.specs.Prelude.{◌≡◌, List, ℕ, ◌-◌, ◌*◌}
use Rattle.refusals.specs.Refusals.{Answer}
use Rattle.refusals.specs.Meanings.{MeansUnless}
use Rattle.merging.specs.Meaning.{TableMeans}
use Rattle.sheet_rules.specs.Sheets.{leaves_of, cells_of}
use Rattle.sheet_rules.specs.Operations.{sheet_refusal}
use Rattle.packed_tables.specs.Packed.{table_with}
use Rattle.sheet_trees.specs.Operations.{in_bytes}

-- the standard listing of the only tree that has the sheet's table, or 6 where none has it; a sheet's cells are counts
abbrev pub SheetTreeMeans : List ℕ → Answer (List ℕ) → Type 0
SheetTreeMeans S = TableMeans (leaves_of S) 1 (table_with (leaves_of S) (cells_of S))

-- an answer in bytes: an answer that means M, each number of its listing in two bytes, low byte first
pub record InBytes (M : Answer (List ℕ) → Type 0) (b : Answer (List ℕ)) : Type 0 where
  pub listing : Answer (List ℕ)
  pub means : M listing
  pub its_bytes : b ≡ in_bytes listing

-- sheet in, listing out in bytes, and the room in bytes: 13, 1, 14, 3, 15, 16, then that
abbrev pub SheetBytesMean : (S : List ℕ) (room : ℕ) → Answer (List ℕ) → Type 0
SheetBytesMean S room = MeansUnless (sheet_refusal S (4 * (leaves_of S - 2)) room) (InBytes (SheetTreeMeans S))
