-- The table of the sheet of 01, computed from the definitions.
use mathlib.Core.Path.{◌≡◌, refl}
use mathlib.Core.List.{[], ◌∷◌, ◌++◌}
use Rattle.base.specs.Numbers.{sum_below}
use Rattle.base.specs.Lists.{tab, any_in, all_in}
use Rattle.pair_counts.specs.Pairs.{P}
use Rattle.refusals.specs.Refusals.{accepted, refuse, judged, answered}
use Rattle.checks.specs.Sizes.{count_refusal_of, room_refusal}
use Rattle.packed_tables.specs.Packed.{cells_before, mirrored, table_with}
use Rattle.byte_numbers.specs.Bytes.{number}
use Rattle.sheet_rules.specs.Sheets.{name_at, name_start, name, name_byte, is_name, same, cells, trailer, leaves_of}
use Rattle.sheet_rules.specs.Sheets.{offset_of, cells_of}
use Rattle.sheet_rules.specs.Operations.{right_ends, sheet_ends_refusal, right_sum, sheet_length_refusal, good_at}
use Rattle.sheet_rules.specs.Operations.{repeated}
use Rattle.sheet_rules.specs.Operations.{name_refusal, names_end_refusal}
use Rattle.sheet_rules.specs.Operations.{names_refusal, kept_sheet_refusal, sheet_refusal}
use Rattle.sheet_rules.proofs.Examples.{five_sheet}
use Rattle.sheet_tables.specs.Operations.{sheet_table_answer}

five_table : sheet_table_answer five_sheet 25 ≡ accepted (
    (0 ∷ 3 ∷ 1 ∷ 0 ∷ 0 ∷ [])
    ++ (3 ∷ 0 ∷ 1 ∷ 0 ∷ 0 ∷ [])
    ++ (1 ∷ 1 ∷ 0 ∷ 1 ∷ 1 ∷ [])
    ++ (0 ∷ 0 ∷ 1 ∷ 0 ∷ 3 ∷ [])
    ++ (0 ∷ 0 ∷ 1 ∷ 3 ∷ 0 ∷ []))
unfolding number name_at name_start name name_byte is_name same cells cells_before mirrored table_with trailer leaves_of
    offset_of cells_of right_ends sheet_ends_refusal right_sum sheet_length_refusal good_at repeated name_refusal
    names_end_refusal names_refusal kept_sheet_refusal
    sheet_refusal sheet_table_answer refuse judged answered count_refusal_of room_refusal sum_below tab any_in all_in P
    five_sheet
five_table = refl
