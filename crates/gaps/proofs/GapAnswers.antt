-- A table and a listing as they are judged for the gap, one go after the other; and what holds exactly where nothing
-- is refused.
use Rattle.std.specs.Prelude.{Ok, Err}
use mathlib.Core.Path.{◌≡◌, ap, sym, ◌∙◌}
use mathlib.Core.List.{List, [], ◌∷◌}
use mathlib.Core.Option.{Option, none}
use Prim.Native.Nat.{ℕ, ◌*◌, ◌≤◌}
use native.Mathlib.Omega.{arith}
use lib.ListN.{length}
use Rattle.limits.specs.declared.Kind.{Kind}
use Rattle.limits.specs.Limits.{IsCountOf}
use Rattle.limits.proofs.TableKinds.{leaf_count_of}
use Rattle.refusals.specs.declared.Refusal.{Refusal}
use Rattle.refusals.specs.Refusals.{Outcome, judged, outcome_of}
use Rattle.refusals.proofs.Answers.{HandsOn, judged_passes, judged_alone, judged_none, go_stops, go_passes}
use Rattle.trees.specs.Listings.{KeepsRules}
use Rattle.trees.specs.Tables.{IsTable, cells_refusal}
use Rattle.trees.proofs.Tables.{passes, passes_exactly}
use Rattle.checks.specs.Sizes.{input_refusal}
use Rattle.checks.proofs.Sizes.{input_right, input_passes}
use Rattle.listings.specs.Operations.{listing_refusal}
use Rattle.listings.proofs.ListingRefusal.{accepted_listing, rules_left}
use Rattle.table_checks.specs.Operations.{table_refusal}
use Rattle.table_checks.proofs.TableRefusal.{cells_left}
use Rattle.gaps.specs.Operations.{gap_refusal}

module _ (kind : Kind) (n : ℕ) (t l : List ℕ) (room : ℕ) where
  abbrev sizes : Option Refusal
  sizes = input_refusal kind n (n * n) (length t)

  abbrev listed : Option Refusal
  listed = listing_refusal n l (n * n) room

  pub sizes_stop :
      {q r : Outcome} {e : Refusal} → q ≡ outcome_of sizes → q ≡ Err e → HandsOn r e
      → r ≡ outcome_of (gap_refusal kind n t l room)
  unfolding gap_refusal
  sizes_stop told h p = go_stops sizes told _ h p

  module _ (fine : sizes ≡ none) where
    rest : gap_refusal kind n t l room ≡ judged (listed ∷ cells_refusal n t ∷ [])
    unfolding gap_refusal
    rest = judged_passes _ fine

    pub listing_stops :
        {q r : Outcome} {e : Refusal} → q ≡ outcome_of listed → q ≡ Err e → HandsOn r e
        → r ≡ outcome_of (gap_refusal kind n t l room)
    listing_stops told h p = go_stops listed told _ h p ∙ ap outcome_of (sym rest)

    -- of what is judged of a table alone only 4 and 5 are left to arise
    pub cells_decide :
        {q r : Outcome} → q ≡ outcome_of listed → q ≡ Ok tt → r ≡ outcome_of (table_refusal kind n t 0 0)
        → r ≡ outcome_of (gap_refusal kind n t l room)
    cells_decide told h e =
        let right = input_right kind n (n * n) (length t) fine in
        let left = e ∙ ap outcome_of (cells_left kind n t 0 0 right.0 right.1 (omega arith)) in
        go_passes listed told (cells_refusal n t) h left ∙ ap outcome_of (sym rest)

  -- what is not refused
  pub record Accepted : Type 0 where
    pub count : IsCountOf kind n
    pub is_table : IsTable n t
    pub keeps : KeepsRules n l
    pub room_enough : n * n ≤ room

  pub accepted_both : gap_refusal kind n t l room ≡ none → Accepted
  unfolding gap_refusal
  accepted_both h =
      let a = judged_none sizes _ h in
      let b = judged_none listed _ a.1 in
      let c = judged_none (cells_refusal n t) _ b.1 in
      let right = input_right kind n (n * n) (length t) a.0 in
      let w = accepted_listing n l (n * n) room b.0 in
      record {
        count = right.0;
        is_table = passes n t right.1 c.0;
        keeps = w.keeps;
        room_enough = w.room_enough;
      }

  pub gap_passes : Accepted → gap_refusal kind n t l room ≡ none
  unfolding gap_refusal
  gap_passes a =
      judged_passes _ (input_passes kind n (n * n) (length t) a.count a.is_table.cells)
      ∙ judged_passes _ listed_fine
      ∙ judged_alone _
      ∙ ((passes_exactly n t).1 a.is_table).1
    where
      listed_fine : listed ≡ none
      listed_fine =
          rules_left n l (n * n) room (leaf_count_of kind n a.count) a.keeps.numbers a.room_enough
          ∙ a.keeps.rules
