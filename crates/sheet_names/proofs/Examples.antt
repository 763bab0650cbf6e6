-- Names of the sheet of 01 that are asked for, computed from the definitions.
use mathlib.Core.Path.{◌≡◌, refl}
use mathlib.Core.List.{List, [], ◌∷◌}
use Prim.Native.Nat.{ℕ}
use Rattle.base.specs.Lists.{tab, any_in, all_in, find}
use Rattle.refusals.specs.declared.Refusal.TheVariants.{Question, SheetLength}
use Rattle.refusals.specs.Refusals.{Answer, accepted, refused, refuse, judged, answered}
use Rattle.checks.specs.Sizes.{count_refusal_of, room_refusal}
use Rattle.checks.specs.Questions.{question_refusal}
use Rattle.sheet_rules.specs.Sheets.{name_at, name_start, name, name_byte, is_name, same, trailer}
use Rattle.sheet_rules.specs.Operations.{right_ends, sheet_ends_refusal, right_sum, sheet_length_refusal, good_at}
use Rattle.sheet_rules.specs.Operations.{repeated}
use Rattle.sheet_rules.specs.Operations.{name_refusal, names_end_refusal}
use Rattle.sheet_rules.specs.Operations.{names_refusal, kept_sheet_refusal}
use Rattle.sheet_rules.proofs.Examples.{five_sheet}
use Rattle.sheet_names.specs.Operations.{name_answer}

-- leaf 2, a leaf that is not there, and figures that are not the sheet's
asked : List (Answer (List ℕ))
asked = name_answer five_sheet 5 10 2 ∷ name_answer five_sheet 5 10 5 ∷ name_answer five_sheet 5 11 2 ∷ []

asked_are : asked ≡ accepted (0x63 ∷ []) ∷ refused (Question 0) ∷ refused SheetLength ∷ []
unfolding name_at name_start name name_byte is_name same trailer right_ends sheet_ends_refusal right_sum
    sheet_length_refusal good_at repeated
    name_refusal names_end_refusal names_refusal kept_sheet_refusal name_answer refuse judged answered count_refusal_of
    room_refusal question_refusal tab any_in all_in
    find five_sheet asked
asked_are = refl
