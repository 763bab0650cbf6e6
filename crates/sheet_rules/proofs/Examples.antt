-- Worked cases of sheets, computed from the definitions: the sheet of 01, sheets that are wrong in one place, and names
-- of 40 and of 41 bytes.
use mathlib.Core.Path.{◌≡◌, refl}
use mathlib.Core.List.{List, [], ◌∷◌, ◌++◌, flat_map}
use mathlib.Core.Option.{Option, none, some}
use Prim.Native.Nat.{ℕ}
use lib.ListN.{set, replicate}
use Rattle.base.specs.Lists.{tab, any_in, all_in}
use Rattle.pair_counts.specs.Pairs.{P}
use Rattle.refusals.specs.declared.Refusal.{Refusal}
use Rattle.refusals.specs.declared.Refusal.TheVariants.{LeafCount, OutputRoom, SheetEnds, SheetLength}
use Rattle.refusals.specs.declared.Refusal.TheVariants.{Name, SameName}
use Rattle.refusals.specs.Refusals.{refuse, judged}
use Rattle.checks.specs.Sizes.{count_refusal_of, room_refusal}
use Rattle.byte_numbers.specs.Bytes.{number, low_first}
use Rattle.sheet_rules.specs.Sheets.{name_at, name_start, name, name_byte, is_name, same, cells}
use Rattle.sheet_rules.specs.Sheets.{trailer, leaves_of, offset_of, longest_sheet}
use Rattle.sheet_rules.specs.Sheets.{names_of, cells_of, name_bytes, sheet_of}
use Rattle.sheet_rules.specs.Operations.{right_ends, sheet_ends_refusal, right_sum, sheet_length_refusal, good_at}
use Rattle.sheet_rules.specs.Operations.{repeated, name_refusal}
use Rattle.sheet_rules.specs.Operations.{names_end_refusal, names_refusal, kept_sheet_refusal, sheet_refusal}

longest : longest_sheet ≡ 21512
longest = refl

-- the sheet of 01, byte by byte
unfoldable pub five_sheet : List ℕ
five_sheet =
    (0x01 ∷ 0x61 ∷ 0x01 ∷ 0x62 ∷ 0x01 ∷ 0x63 ∷ 0x01 ∷ 0x64 ∷ 0x01 ∷ 0x65 ∷ [])
    ++ (0x03 ∷ 0x00 ∷ 0x01 ∷ 0x00 ∷ 0x00 ∷ 0x00 ∷ 0x00 ∷ 0x00 ∷ 0x01 ∷ 0x00 ∷ [])
    ++ (0x00 ∷ 0x00 ∷ 0x00 ∷ 0x00 ∷ 0x01 ∷ 0x00 ∷ 0x01 ∷ 0x00 ∷ 0x03 ∷ 0x00 ∷ [])
    ++ (0x05 ∷ 0x00 ∷ 0x0A ∷ 0x00 ∷ 0x00 ∷ 0x00 ∷ 0x51 ∷ 0x54 ∷ [])

-- its names are a to e
letters : List (List ℕ)
letters = (0x61 ∷ []) ∷ (0x62 ∷ []) ∷ (0x63 ∷ []) ∷ (0x64 ∷ []) ∷ (0x65 ∷ []) ∷ []

five_names : names_of five_sheet ≡ letters
unfolding number name_at name_start name trailer leaves_of names_of tab five_sheet letters
five_names = refl

five_cells : cells_of five_sheet ≡ 3 ∷ 1 ∷ 0 ∷ 0 ∷ 1 ∷ 0 ∷ 0 ∷ 1 ∷ 1 ∷ 3 ∷ []
unfolding number cells trailer leaves_of offset_of cells_of P tab five_sheet
five_cells = refl

five_written : sheet_of letters (cells_of five_sheet) ≡ five_sheet
unfolding number low_first cells trailer leaves_of offset_of cells_of name_bytes sheet_of P tab flat_map five_sheet
    letters
five_written = refl

-- the same sheet with one byte changed; with a name more than its leaf count says, and its first cell behind that; and
-- three names, the second of so many bytes
changed : ℕ → ℕ → List ℕ
changed p b = set five_sheet p b

one_name_more : List ℕ
one_name_more =
    name_bytes letters
    ++ (0x01 ∷ 0x66 ∷ [])
    ++ flat_map (low_first 2) (cells_of five_sheet)
    ++ (0x05 ∷ 0x00 ∷ 0x0C ∷ 0x00 ∷ 0x00 ∷ 0x00 ∷ 0x51 ∷ 0x54 ∷ [])

with_name : ℕ → List ℕ
with_name k = sheet_of ((0x61 ∷ []) ∷ replicate k 0x62 ∷ (0x63 ∷ []) ∷ []) (0 ∷ 0 ∷ 0 ∷ [])

-- what is judged of each, with room for 25 cells, and of the sheet of 01 with room for 24
judgements : List (Option Refusal)
judgements =
    sheet_refusal five_sheet 25 25
    ∷ sheet_refusal (changed 37 0x55) 25 25
    ∷ sheet_refusal (changed 30 2) 25 25
    ∷ sheet_refusal (changed 30 4) 25 25
    ∷ sheet_refusal five_sheet 25 24
    ∷ sheet_refusal (changed 0 0) 25 25
    ∷ sheet_refusal (changed 3 0x5F) 25 25
    ∷ sheet_refusal (changed 8 2) 25 25
    ∷ sheet_refusal (changed 9 0x61) 25 25
    ∷ sheet_refusal one_name_more 25 25
    ∷ sheet_refusal (with_name 40) 9 25
    ∷ sheet_refusal (with_name 41) 9 25
    ∷ []

judgements_are :
    judgements
    ≡ none
    ∷ some SheetEnds
    ∷ some LeafCount
    ∷ some SheetLength
    ∷ some OutputRoom
    ∷ some (Name 0)
    ∷ some (Name 1)
    ∷ some (Name 4)
    ∷ some (SameName 4)
    ∷ some (Name 5)
    ∷ none
    ∷ some (Name 1)
    ∷ []
unfolding number low_first name_at name_start name name_byte is_name same cells trailer leaves_of offset_of cells_of
    name_bytes
    sheet_of right_ends sheet_ends_refusal right_sum sheet_length_refusal good_at repeated name_refusal
    names_end_refusal names_refusal kept_sheet_refusal
    sheet_refusal refuse judged count_refusal_of room_refusal tab any_in all_in P flat_map five_sheet letters changed
    one_name_more with_name
    judgements
judgements_are = refl
