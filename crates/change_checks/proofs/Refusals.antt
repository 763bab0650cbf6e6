-- What is judged before a tree is changed, one go after the other.
use Rattle.std.specs.Prelude.{Ok, Err}
use mathlib.Core.Path.{◌≡◌, refl, ap, sym, ◌∙◌}
use mathlib.Core.Logic.{◌≢◌}
use mathlib.Core.Bool.{Bool, true, false, ◌&&◌}
use mathlib.Core.List.{List, [], ◌∷◌}
use mathlib.Core.Option.{Option, none}
use Prim.Native.Nat.{ℕ, ◌-◌, ◌*◌, ◌≤◌, ◌<◌}
use native.Mathlib.Omega.{arith}
use lib.ListN.{length}
use Rattle.base.proofs.Bools.{and_both}
use Rattle.limits.specs.declared.Kind.TheVariants.{Counts}
use Rattle.limits.specs.Limits.{IsLeafCount}
use Rattle.refusals.specs.declared.Refusal.{Refusal}
use Rattle.refusals.specs.declared.Refusal.TheVariants.{LeafCount as Count, InputLength, OutputRoom, NotOwn}
use Rattle.refusals.specs.Refusals.{Outcome, refuse, judged, outcome_of}
use Rattle.refusals.proofs.Answers.{refuse_passed, refuse_failed, judged_stops, judged_passes, judged_alone}
use Rattle.refusals.proofs.Answers.{judged_nest, judged_none, refused_some}
use Rattle.refusals.proofs.Answers.{HandsOn, go_stops, go_passes}
use Rattle.checks.specs.Sizes.{right_count, count_refusal, length_refusal, room_refusal}
use Rattle.checks.proofs.Sizes.{count_stops, count_passes, count_right, length_stops, length_passes, length_right}
use Rattle.checks.proofs.Sizes.{room_stops, room_passes, room_right}
use Rattle.trees.specs.Trees.{Tree}
use Rattle.trees.specs.Listings.{rules_refusal, KeepsRules, tree_of}
use Rattle.trees.specs.Tables.{is_own_table, cells_refusal}
use Rattle.trees.proofs.Tables.{passes_exactly, had_is_table, scale_one, own_exactly}
use Rattle.listings.specs.Operations.{listing_refusal}
use Rattle.listings.proofs.ListingRefusal.{rules_left}
use Rattle.table_checks.specs.Operations.{table_refusal}
use Rattle.table_checks.proofs.TableRefusal.{cells_left}
use Rattle.change_answers.specs.declared.Change.{Change}
use Rattle.change_answers.specs.Operations.{count_after, is_there, change_refusal}
use Rattle.change_checks.specs.inner.Refusals.{change_sizes_refusal, cells_or_own_refusal}

-- The sizes.
module _ (n m numbers cells room space : ℕ) where
  abbrev sizes : Option Refusal
  sizes = change_sizes_refusal n m numbers cells room space

  pub count_told : right_count Counts m ≡ false → Err Count ≡ outcome_of sizes
  unfolding change_sizes_refusal outcome_of
  count_told h = ap outcome_of (sym (judged_stops _ (count_stops Counts m h)))

  module _ (c : IsLeafCount m) where
    pub numbers_told : numbers ≢ 2 * (n - 2) → Err InputLength ≡ outcome_of sizes
    unfolding change_sizes_refusal outcome_of
    numbers_told h =
        ap outcome_of (sym (judged_passes _ (count_passes Counts m c) ∙ judged_stops _ (length_stops _ _ h)))

    module _ (e : numbers ≡ 2 * (n - 2)) where
      cells_next :
          sizes
          ≡ judged (length_refusal (n * n) cells ∷ room_refusal (2 * (m - 2)) room ∷ room_refusal (m * m) space ∷ [])
      unfolding change_sizes_refusal
      cells_next = judged_passes _ (count_passes Counts m c) ∙ judged_passes _ (length_passes _ _ e)

      pub cells_told : cells ≢ n * n → Err InputLength ≡ outcome_of sizes
      unfolding outcome_of
      cells_told h = ap outcome_of (sym (cells_next ∙ judged_stops _ (length_stops _ _ h)))

      module _ (f : cells ≡ n * n) where
        pub room_told : room < 2 * (m - 2) → Err OutputRoom ≡ outcome_of sizes
        unfolding outcome_of
        room_told h =
            ap outcome_of (sym (cells_next ∙ judged_passes _ (length_passes _ _ f) ∙ judged_stops _ (room_stops _ _ h)))

        module _ (g : 2 * (m - 2) ≤ room) where
          space_next : sizes ≡ room_refusal (m * m) space
          space_next =
              cells_next ∙ judged_passes _ (length_passes _ _ f) ∙ judged_passes _ (room_passes _ _ g) ∙ judged_alone _

          pub space_told : space < m * m → Err OutputRoom ≡ outcome_of sizes
          unfolding outcome_of
          space_told h = ap outcome_of (sym (space_next ∙ room_stops _ _ h))

          pub sizes_told : m * m ≤ space → Ok tt ≡ outcome_of sizes
          unfolding outcome_of
          sizes_told h = ap outcome_of (sym (space_next ∙ room_passes _ _ h))

  -- where none of them arises
  pub record RightSizes : Type 0 where
    pub count : IsLeafCount m
    pub long : numbers ≡ 2 * (n - 2)
    pub square : cells ≡ n * n
    pub enough : 2 * (m - 2) ≤ room
    pub enough_cells : m * m ≤ space

  pub sizes_right : sizes ≡ none → RightSizes
  unfolding change_sizes_refusal
  sizes_right h =
      let a = judged_none (count_refusal m) _ h in
      let b = judged_none (length_refusal (2 * (n - 2)) numbers) _ a.1 in
      let d = judged_none (length_refusal (n * n) cells) _ b.1 in
      let e = judged_none (room_refusal (2 * (m - 2)) room) _ d.1 in
      let f = judged_none (room_refusal (m * m) space) _ e.1 in
      record {
        count = count_right Counts m a.0;
        long = length_right _ _ b.0;
        square = length_right _ _ d.0;
        enough = room_right _ _ e.0;
        enough_cells = room_right _ _ f.0;
      }

-- The cells, and what is named: a tree's own table is never refused by 4 or 5.
module _ (there : Bool) (n : ℕ) (t : List ℕ) (T : Tree) (k : IsLeafCount n) (long : length t ≡ n * n) where
  abbrev fit : Bool
  fit = there && is_own_table n t T

  abbrev cells : Option Refusal
  cells = cells_or_own_refusal there n t T

  pub fit_told : fit ≡ true → Ok tt ≡ outcome_of cells
  unfolding cells_or_own_refusal outcome_of
  fit_told h =
      let own = (own_exactly n t T long).0 (and_both there (is_own_table n t T) h).1 in
      let is = had_is_table n 1 t T ((scale_one n t T).1 own) in
      ap outcome_of (sym (judged_passes _ ((passes_exactly n t).1 is).1 ∙ judged_alone _ ∙ refuse_passed NotOwn h))

  -- of what is judged of a table alone only 4 and 5 are left to arise
  tabled : table_refusal Counts n t 0 0 ≡ cells_refusal n t
  tabled = cells_left Counts n t 0 0 k long (omega arith)

  pub cells_stop : {r : Refusal} → Err r ≡ outcome_of (table_refusal Counts n t 0 0) → Err r ≡ outcome_of cells
  unfolding cells_or_own_refusal outcome_of
  cells_stop h =
      let arises = refused_some (cells_refusal n t) _ (sym (h ∙ ap outcome_of tabled)) in
      ap outcome_of (sym (judged_stops _ arises))

  pub unfit_told : Ok tt ≡ outcome_of (table_refusal Counts n t 0 0) → fit ≡ false → Err NotOwn ≡ outcome_of cells
  unfolding cells_or_own_refusal outcome_of
  unfit_told h f =
      go_passes (cells_refusal n t) (h ∙ ap outcome_of tabled) (refuse fit NotOwn) refl
      (ap outcome_of (sym (refuse_failed NotOwn f)))

pub ruleset own_told = (fit_told, unfit_told)

-- All that is judged: the sizes, the rules, then the cells and what is named.
module _ (n : ℕ) (l t : List ℕ) (c : Change) (room space : ℕ) where
  abbrev whole : Option Refusal
  whole = change_refusal n l t c room space

  abbrev own : Option Refusal
  own = refuse (is_there n c && is_own_table n t (tree_of n l)) NotOwn

  abbrev due : Option Refusal
  due = cells_or_own_refusal (is_there n c) n t (tree_of n l)

  abbrev sized : Option Refusal
  sized = change_sizes_refusal n (count_after n c) (length l) (length t) room space

  pub first_count_told : right_count Counts n ≡ false → Err Count ≡ outcome_of whole
  unfolding change_refusal outcome_of
  first_count_told h = ap outcome_of (sym (judged_stops _ (count_stops Counts n h)))

  module _ (k : IsLeafCount n) where
    sizes_next : whole ≡ judged (sized ∷ rules_refusal n l ∷ cells_refusal n t ∷ own ∷ [])
    unfolding change_refusal change_sizes_refusal
    sizes_next =
        let m = count_after n c in
        judged_passes _ (count_passes Counts n k)
        ∙ judged_nest
        (count_refusal m ∷ length_refusal (2 * (n - 2)) (length l) ∷ length_refusal (n * n) (length t)
        ∷ room_refusal (2 * (m - 2)) room ∷ room_refusal (m * m) space ∷ [])
        (rules_refusal n l ∷ cells_refusal n t ∷ own ∷ [])

    pub sizes_stop :
        {q r : Outcome} {e : Refusal} → q ≡ outcome_of sized → q ≡ Err e → HandsOn r e → r ≡ outcome_of whole
    sizes_stop told h p = go_stops sized told _ h p ∙ ap outcome_of (sym sizes_next)

    module _ (s : sized ≡ none) where
      right : RightSizes n (count_after n c) (length l) (length t) room space
      right = sizes_right n (count_after n c) (length l) (length t) room space s

      rules_next : whole ≡ judged (rules_refusal n l ∷ cells_refusal n t ∷ own ∷ [])
      rules_next = sizes_next ∙ judged_passes _ s

      -- of what is judged of a listing alone only 7 and 8 are left to arise
      listed : listing_refusal n l 0 0 ≡ rules_refusal n l
      listed = rules_left n l 0 0 k right.long (omega arith)

      pub rules_stop :
          {q r : Outcome} {e : Refusal} → q ≡ outcome_of (listing_refusal n l 0 0) → q ≡ Err e → HandsOn r e
          → r ≡ outcome_of whole
      rules_stop told h p =
          go_stops (rules_refusal n l) (told ∙ ap outcome_of listed) _ h p ∙ ap outcome_of (sym rules_next)

      module _ (g : listing_refusal n l 0 0 ≡ none) where
        pub keeps : KeepsRules n l
        keeps = record { numbers = right.long; rules = sym listed ∙ g }

        pub cells_decide : {q : Outcome} → q ≡ outcome_of due → q ≡ outcome_of whole
        unfolding cells_or_own_refusal
        cells_decide told = told ∙ ap outcome_of (sym (rules_next ∙ judged_passes _ keeps.rules))
