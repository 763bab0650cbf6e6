-- The tree of a strain sheet, as its standard listing: the answers, the refusals in the order in which they are
-- judged.
use mathlib.Core.List.{List, flat_map}
use Rattle.std.specs.Prelude.{ℕ, ◌-◌, ◌*◌}
use Rattle.refusals.specs.Refusals.{Answer, accepted, refused, unless}
use Rattle.merging.specs.Rebuilds.{rebuilt}
use Rattle.byte_numbers.specs.Bytes.{low_first}
use Rattle.sheet_rules.specs.Sheets.{leaves_of, cells_of}
use Rattle.sheet_rules.specs.Operations.{sheet_refusal}
use Rattle.packed_tables.specs.Packed.{table_with}

-- the tree that has the table of the sheet S, if one has: its standard listing, or 6
unfoldable pub sheet_tree : List ℕ → Answer (List ℕ)
sheet_tree S = rebuilt (leaves_of S) 1 (table_with (leaves_of S) (cells_of S))

-- sheet in, listing out: 13, 1, 14, 3, 15, 16, then 6
unfoldable pub sheet_listing_answer : (S : List ℕ) (room : ℕ) → Answer (List ℕ)
sheet_listing_answer S room = unless (sheet_refusal S (2 * (leaves_of S - 2)) room) (sheet_tree S)

-- a listing in bytes: each of its numbers in two, low byte first
unfoldable pub in_bytes : Answer (List ℕ) → Answer (List ℕ)
in_bytes (accepted l) = accepted (flat_map (low_first 2) l)
in_bytes (refused r) = refused r

-- sheet in, listing out in bytes, and the room in bytes: 13, 1, 14, 3, 15, 16, then 6
unfoldable pub sheet_bytes_answer : (S : List ℕ) (room : ℕ) → Answer (List ℕ)
sheet_bytes_answer S room = unless (sheet_refusal S (4 * (leaves_of S - 2)) room) (in_bytes (sheet_tree S))
