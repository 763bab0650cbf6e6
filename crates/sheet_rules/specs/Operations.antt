-- The operations on sheets: their answers, the refusals in the order in which they are judged.
use Rattle.std.specs.Prelude.{Bool, cond, ◌&&◌, List, [], ◌∷◌, ◌++◌, ℕ, ◌+◌, ltb, leb, eqb, length, drop}
use Rattle.std.proofs.Math.Option.{Option, none, some}
use Rattle.base.specs.Lists.{tab, any_in}
use Rattle.refusals.specs.declared.Refusal.{Refusal}
use Rattle.refusals.specs.declared.Refusal.TheVariants.{SheetEnds, SheetLength, Name, SameName}
use Rattle.refusals.specs.Refusals.{Answer, refuse, judged, answered}
use Rattle.checks.specs.Sizes.{count_refusal, room_refusal}
use Rattle.sheet_rules.specs.Sheets.{trailer_bytes, trailer, leaves_of, offset_of, mark, next_name, name_start}
use Rattle.sheet_rules.specs.Sheets.{name_at, name, is_name, same, cell_bytes, longest_sheet}

-- a sheet has 8 to 21,512 bytes and ends 51 54: else 13
unfoldable pub right_ends : List ℕ → Bool
right_ends S = leb trailer_bytes (length S) && leb (length S) longest_sheet && same (drop 6 (trailer S)) mark

unfoldable pub sheet_ends_refusal : List ℕ → Option Refusal
sheet_ends_refusal S = refuse (right_ends S) SheetEnds

-- offset + n(n − 1) + 8 is the sheet's length: else 14
unfoldable pub right_sum : List ℕ → ℕ → ℕ → Bool
right_sum S n o = eqb (o + cell_bytes n + trailer_bytes) (length S)

unfoldable pub sheet_length_refusal : List ℕ → ℕ → ℕ → Option Refusal
sheet_length_refusal S n o = refuse (right_sum S n o) SheetLength

-- the name that starts at p is good: it begins before the offset o and ends at or before it, and is a name
unfoldable pub good_at : List ℕ → ℕ → ℕ → Bool
good_at S o p = ltb p o && leb (next_name S p) o && is_name (name_at S p)

-- leaf i's name equals an earlier one
unfoldable pub repeated : List ℕ → ℕ → Bool
repeated S i = any_in (same (name S i)) (tab i (name S))

-- leaf i's name: 15 before 16
unfoldable pub name_refusal : List ℕ → ℕ → ℕ → Option Refusal
name_refusal S o i = cond (good_at S o (name_start S i)) (cond (repeated S i) (some (SameName i)) none) (some (Name i))

-- names end before the offset: 15 with n
unfoldable pub names_end_refusal : List ℕ → ℕ → ℕ → Option Refusal
names_end_refusal S n o = cond (ltb (name_start S n) o) (some (Name n)) none

-- names one by one, and names end before the offset last
unfoldable pub names_refusal : List ℕ → ℕ → ℕ → Option Refusal
names_refusal S n o = judged (tab n (name_refusal S o) ++ (names_end_refusal S n o ∷ []))

-- a sheet read with these figures, the leaf count n and the offset o, and room for a result of so many cells: 13, 1,
-- 14, 3, then 15 and 16 name by name
unfoldable pub kept_sheet_refusal : (S : List ℕ) (n o due room : ℕ) → Option Refusal
kept_sheet_refusal S n o due room =
    judged (sheet_ends_refusal S ∷ count_refusal n ∷ sheet_length_refusal S n o ∷ room_refusal due room
    ∷ names_refusal S n o ∷ [])

-- a sheet read with its trailer's figures, and room for a result of so many cells: 13, 1, 14, 3, 15, 16
unfoldable pub sheet_refusal : (S : List ℕ) (due room : ℕ) → Option Refusal
sheet_refusal S due room = kept_sheet_refusal S (leaves_of S) (offset_of S) due room

-- check, and read: 13, 1, 14, 15, 16
unfoldable pub check_sheet_answer : List ℕ → Answer (Unit {0})
check_sheet_answer S = answered (sheet_refusal S 0 0) tt
