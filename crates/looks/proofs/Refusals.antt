-- What is judged of a look, one go after the other: the sizes; what is judged of a graft; the cells of the new table.
use Rattle.std.specs.Prelude.{Ok, Err}
use mathlib.Core.Path.{◌≡◌, ap, sym, ◌∙◌}
use mathlib.Core.Logic.{◌≢◌}
use mathlib.Core.Bool.{false}
use mathlib.Core.List.{List, [], ◌∷◌}
use mathlib.Core.Option.{Option, none}
use Prim.Native.Nat.{ℕ, ◌+◌, ◌-◌, ◌*◌, ◌≤◌, ◌<◌}
use native.Mathlib.Nat.{mul-le-mul}
use native.Mathlib.Omega.{arith}
use lib.ListN.{length}
use Rattle.limits.specs.declared.Kind.{Kind}
use Rattle.limits.specs.declared.Kind.TheVariants.{Counts}
use Rattle.limits.specs.Limits.{IsLeafCount, IsCountOf, most_numbers, most_cells}
use Rattle.limits.proofs.TableKinds.{leaf_count_of}
use Rattle.refusals.specs.declared.Refusal.{Refusal}
use Rattle.refusals.specs.declared.Refusal.TheVariants.{LeafCount as Count, InputLength, OutputRoom}
use Rattle.refusals.specs.Refusals.{Outcome, judged, outcome_of}
use Rattle.refusals.proofs.Answers.{judged_stops, judged_passes, judged_alone, judged_nest, judged_none}
use Rattle.refusals.proofs.Answers.{HandsOn, go_stops, go_passes}
use Rattle.checks.specs.Sizes.{right_count, count_refusal, count_refusal_of, length_refusal, room_refusal}
use Rattle.checks.proofs.Sizes.{count_stops, count_passes, count_right, length_stops, length_passes, length_right}
use Rattle.checks.proofs.Sizes.{room_stops, room_passes, room_right}
use Rattle.trees.specs.Tables.{cells_refusal}
use Rattle.grafted_trees.specs.Grafts.{names_edge}
use Rattle.table_checks.specs.Operations.{table_refusal}
use Rattle.table_checks.proofs.TableRefusal.{cells_left}
use Rattle.change_answers.specs.declared.Change.TheVariants.{Graft}
use Rattle.change_answers.specs.Operations.{change_refusal}
use Rattle.look_answers.specs.Operations.{look_refusal}
use Rattle.look_answers.proofs.Accepted.{RightSizes, look_refused_with_graft}
use Rattle.looks.specs.inner.Refusals.{look_sizes_refusal}

-- The sizes, test by test.
module _ (kind : Kind) (n numbers cells new_cells due room : ℕ) where
  abbrev sizes : Option Refusal
  sizes = look_sizes_refusal kind n numbers cells new_cells due room

  pub count_told : right_count Counts n ≡ false → Err Count ≡ outcome_of sizes
  unfolding look_sizes_refusal outcome_of
  count_told h = ap outcome_of (sym (judged_stops _ (count_stops Counts n h)))

  module _ (c : IsLeafCount n) where
    pub new_count_told : right_count kind (n + 1) ≡ false → Err Count ≡ outcome_of sizes
    unfolding look_sizes_refusal outcome_of
    new_count_told h =
        ap outcome_of (sym (judged_passes _ (count_passes Counts n c) ∙ judged_stops _ (count_stops kind (n + 1) h)))

    module _ (d : IsCountOf kind (n + 1)) where
      lengths_next :
          sizes
          ≡ judged (
          length_refusal (2 * (n - 2)) numbers ∷ length_refusal (n * n) cells
          ∷ length_refusal ((n + 1) * (n + 1)) new_cells ∷ room_refusal due room ∷ []
          )
      unfolding look_sizes_refusal
      lengths_next = judged_passes _ (count_passes Counts n c) ∙ judged_passes _ (count_passes kind (n + 1) d)

      pub numbers_told : numbers ≢ 2 * (n - 2) → Err InputLength ≡ outcome_of sizes
      unfolding outcome_of
      numbers_told h = ap outcome_of (sym (lengths_next ∙ judged_stops _ (length_stops _ _ h)))

      module _ (e : numbers ≡ 2 * (n - 2)) where
        pub cells_told : cells ≢ n * n → Err InputLength ≡ outcome_of sizes
        unfolding outcome_of
        cells_told h =
            ap outcome_of
            (sym (lengths_next ∙ judged_passes _ (length_passes _ _ e) ∙ judged_stops _ (length_stops _ _ h)))

        module _ (f : cells ≡ n * n) where
          new_cells_next :
              sizes ≡ judged (length_refusal ((n + 1) * (n + 1)) new_cells ∷ room_refusal due room ∷ [])
          new_cells_next =
              lengths_next ∙ judged_passes _ (length_passes _ _ e) ∙ judged_passes _ (length_passes _ _ f)

          pub new_cells_told : new_cells ≢ (n + 1) * (n + 1) → Err InputLength ≡ outcome_of sizes
          unfolding outcome_of
          new_cells_told h = ap outcome_of (sym (new_cells_next ∙ judged_stops _ (length_stops _ _ h)))

          module _ (g : new_cells ≡ (n + 1) * (n + 1)) where
            room_next : sizes ≡ room_refusal due room
            room_next = new_cells_next ∙ judged_passes _ (length_passes _ _ g) ∙ judged_alone _

            pub room_told : room < due → Err OutputRoom ≡ outcome_of sizes
            unfolding outcome_of
            room_told h = ap outcome_of (sym (room_next ∙ room_stops _ _ h))

            pub sizes_told : due ≤ room → Ok tt ≡ outcome_of sizes
            unfolding outcome_of
            sizes_told h = ap outcome_of (sym (room_next ∙ room_passes _ _ h))

-- All that is judged.
module _ (kind : Kind) (n : ℕ) (l t u : List ℕ) (e due room : ℕ) where
  abbrev whole : Option Refusal
  whole = look_refusal kind n l t u (names_edge n e) due room

  abbrev sized : Option Refusal
  sized = look_sizes_refusal kind n (length l) (length t) (length u) due room

  -- what is judged of a graft with room for the longest listing and the largest table
  abbrev graft : Option Refusal
  graft = change_refusal n l t (Graft e) most_numbers most_cells

  pub sizes_stop :
      {q r : Outcome} {x : Refusal} → q ≡ outcome_of sized → q ≡ Err x → HandsOn r x → r ≡ outcome_of whole
  unfolding look_refusal look_sizes_refusal
  sizes_stop told h p =
      go_stops sized told _ h p
      ∙ ap outcome_of (sym (judged_nest
      (count_refusal n ∷ count_refusal_of kind (n + 1) ∷ length_refusal (2 * (n - 2)) (length l)
      ∷ length_refusal (n * n) (length t) ∷ length_refusal ((n + 1) * (n + 1)) (length u) ∷ room_refusal due room ∷ [])
      _))

  pub right_sizes : sized ≡ none → RightSizes kind n l t u (names_edge n e) due room
  unfolding look_sizes_refusal
  right_sizes h =
      let a = judged_none (count_refusal n) _ h in
      let b = judged_none (count_refusal_of kind (n + 1)) _ a.1 in
      let d = judged_none (length_refusal (2 * (n - 2)) (length l)) _ b.1 in
      let f = judged_none (length_refusal (n * n) (length t)) _ d.1 in
      let g = judged_none (length_refusal ((n + 1) * (n + 1)) (length u)) _ f.1 in
      let i = judged_none (room_refusal due room) _ g.1 in
      record {
        count = count_right Counts n a.0;
        new_count = count_right kind (n + 1) b.0;
        numbers = length_right _ _ d.0;
        cells = length_right _ _ f.0;
        new_cells = length_right _ _ g.0;
        enough = room_right _ _ i.0;
      }

  module _ (s : sized ≡ none) where
    right : RightSizes kind n l t u (names_edge n e) due room
    right = right_sizes s

    as_graft : whole ≡ judged (graft ∷ cells_refusal (n + 1) u ∷ [])
    as_graft =
        let c = leaf_count_of kind (n + 1) right.new_count in
        look_refused_with_graft kind n l t u e due room right most_numbers most_cells (omega (arith, c))
        (mul-le-mul c.1 c.1)

    pub graft_stops :
        {q r : Outcome} {x : Refusal} → q ≡ outcome_of graft → q ≡ Err x → HandsOn r x → r ≡ outcome_of whole
    graft_stops told h p = go_stops graft told _ h p ∙ ap outcome_of (sym as_graft)

    -- of what is judged of a table alone only 4 and 5 are left to arise
    pub cells_decide :
        {q r : Outcome} → q ≡ outcome_of graft → q ≡ Ok tt → r ≡ outcome_of (table_refusal kind (n + 1) u 0 0)
        → r ≡ outcome_of whole
    cells_decide told h f =
        let left = cells_left kind (n + 1) u 0 0 right.new_count right.new_cells (omega arith) in
        go_passes graft told (cells_refusal (n + 1) u) h (f ∙ ap outcome_of left) ∙ ap outcome_of (sym as_graft)
