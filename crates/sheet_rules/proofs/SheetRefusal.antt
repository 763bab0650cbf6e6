-- A sheet as it is judged: each refusal of sizes from the test that finds it, then the names; and what holds of a sheet
-- that is not refused.
use mathlib.Core.Path.{◌≡◌, sym, ◌∙◌}
use mathlib.Core.Bool.{true, false}
use mathlib.Core.List.{List, [], ◌∷◌}
use mathlib.Core.Option.{none, some}
use Prim.Native.Nat.{ℕ, ◌+◌, ◌≤◌, ◌<◌}
use lib.ListN.{length}
use Rattle.limits.specs.declared.Kind.TheVariants.{Counts}
use Rattle.limits.specs.Limits.{IsLeafCount}
use Rattle.refusals.specs.declared.Refusal.TheVariants.{LeafCount as Count, OutputRoom, SheetEnds, SheetLength}
use Rattle.refusals.specs.Refusals.{judged}
use Rattle.refusals.proofs.Answers.{refuse_passed, refuse_failed, refuse_none, judged_stops, judged_passes}
use Rattle.refusals.proofs.Answers.{judged_alone, judged_none}
use Rattle.checks.specs.Sizes.{right_count, count_refusal, room_refusal}
use Rattle.checks.proofs.Sizes.{is_leaf_count, count_stops, count_passes, count_right, room_stops, room_passes}
use Rattle.checks.proofs.Sizes.{room_right}
use Rattle.sheet_rules.specs.Sheets.{trailer_bytes, cell_bytes}
use Rattle.sheet_rules.specs.Operations.{right_ends, sheet_ends_refusal, right_sum, sheet_length_refusal}
use Rattle.sheet_rules.specs.Operations.{names_refusal, kept_sheet_refusal}
use Rattle.sheet_rules.proofs.Sizes.{sum_is}

module _ (S : List ℕ) (n o due room : ℕ) where
  pub ends_refused : right_ends S ≡ false → kept_sheet_refusal S n o due room ≡ some SheetEnds
  unfolding kept_sheet_refusal sheet_ends_refusal
  ends_refused h = judged_stops _ (refuse_failed SheetEnds h)

  module _ (ends : right_ends S ≡ true) where
    ends_passed :
        kept_sheet_refusal S n o due room
        ≡ judged (count_refusal n ∷ sheet_length_refusal S n o ∷ room_refusal due room ∷ names_refusal S n o ∷ [])
    unfolding kept_sheet_refusal sheet_ends_refusal
    ends_passed = judged_passes _ (refuse_passed SheetEnds ends)

    pub count_refused : right_count Counts n ≡ false → kept_sheet_refusal S n o due room ≡ some Count
    count_refused h = ends_passed ∙ judged_stops _ (count_stops Counts n h)

    module _ (count : right_count Counts n ≡ true) where
      count_passed :
          kept_sheet_refusal S n o due room
          ≡ judged (sheet_length_refusal S n o ∷ room_refusal due room ∷ names_refusal S n o ∷ [])
      count_passed = ends_passed ∙ judged_passes _ (count_passes Counts n (is_leaf_count n count))

      pub sum_refused : right_sum S n o ≡ false → kept_sheet_refusal S n o due room ≡ some SheetLength
      unfolding sheet_length_refusal
      sum_refused h = count_passed ∙ judged_stops _ (refuse_failed SheetLength h)

      module _ (sum : right_sum S n o ≡ true) where
        sum_passed :
            kept_sheet_refusal S n o due room ≡ judged (room_refusal due room ∷ names_refusal S n o ∷ [])
        unfolding sheet_length_refusal
        sum_passed = count_passed ∙ judged_passes _ (refuse_passed SheetLength sum)

        pub room_refused : room < due → kept_sheet_refusal S n o due room ≡ some OutputRoom
        room_refused h = sum_passed ∙ judged_stops _ (room_stops due room h)

        -- the sizes are right: the names decide
        pub names_left : due ≤ room → kept_sheet_refusal S n o due room ≡ names_refusal S n o
        names_left h = sum_passed ∙ judged_passes _ (room_passes due room h) ∙ judged_alone (names_refusal S n o)

  -- what is not refused
  pub record Accepted : Type 0 where
    pub ends : right_ends S ≡ true
    pub count : IsLeafCount n
    pub sum : o + cell_bytes n + trailer_bytes ≡ length S
    pub room_enough : due ≤ room
    pub names : names_refusal S n o ≡ none

  pub accepted_sheet : kept_sheet_refusal S n o due room ≡ none → Accepted
  unfolding kept_sheet_refusal sheet_ends_refusal sheet_length_refusal
  accepted_sheet h =
      let a = judged_none (sheet_ends_refusal S) _ h in
      let b = judged_none (count_refusal n) _ a.1 in
      let c = judged_none (sheet_length_refusal S n o) _ b.1 in
      let d = judged_none (room_refusal due room) _ c.1 in
      record {
        ends = refuse_none _ SheetEnds a.0;
        count = count_right Counts n b.0;
        sum = sum_is S n o (refuse_none _ SheetLength c.0);
        room_enough = room_right due room d.0;
        names = sym (judged_alone (names_refusal S n o)) ∙ d.1;
      }
