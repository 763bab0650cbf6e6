-- What is so exactly where a change is not refused.
use mathlib.Core.Path.{◌≡◌, ◌∙◌}
use mathlib.Core.Logic.{◌↔◌}
use mathlib.Core.Bool.{true, ◌&&◌}
use mathlib.Core.List.{List}
use mathlib.Core.Option.{none}
use Prim.Native.Nat.{ℕ, ◌-◌, ◌*◌, ◌≤◌}
use lib.ListN.{length}
use Rattle.base.proofs.Bools.{and_both}
use Rattle.limits.specs.declared.Kind.TheVariants.{Counts}
use Rattle.limits.specs.Limits.{IsLeafCount}
use Rattle.refusals.specs.declared.Refusal.TheVariants.{NotOwn}
use Rattle.refusals.specs.Refusals.{refuse}
use Rattle.refusals.proofs.Answers.{refuse_passed, refuse_none, judged_passes, judged_alone, judged_none}
use Rattle.checks.specs.Sizes.{count_refusal, length_refusal, room_refusal}
use Rattle.checks.proofs.Sizes.{count_passes, count_right, length_passes, length_right, room_passes, room_right}
use Rattle.trees.specs.Listings.{rules_refusal, KeepsRules, tree_of}
use Rattle.trees.specs.Tables.{table_of, is_own_table, IsTable, cells_refusal}
use Rattle.trees.proofs.Tables.{passes_exactly, had_is_table, scale_one, own_exactly}
use Rattle.change_answers.specs.declared.Change.{Change}
use Rattle.change_answers.specs.Operations.{count_after, is_there, change_refusal}

module _ (n : ℕ) (l t : List ℕ) (c : Change) (room space : ℕ) where
  abbrev m : ℕ
  m = count_after n c

  pub record Accepted : Type 0 where
    pub count : IsLeafCount n
    pub new_count : IsLeafCount m
    pub keeps : KeepsRules n l
    pub cells : length t ≡ n * n
    pub enough : 2 * (m - 2) ≤ room
    pub enough_cells : m * m ≤ space
    pub there : is_there n c ≡ true
    pub is_own : t ≡ table_of n (tree_of n l)

  pub accepted_change : change_refusal n l t c room space ≡ none → Accepted
  unfolding change_refusal
  accepted_change h =
      let a = judged_none (count_refusal n) _ h in
      let b = judged_none (count_refusal m) _ a.1 in
      let d = judged_none (length_refusal (2 * (n - 2)) (length l)) _ b.1 in
      let e = judged_none (length_refusal (n * n) (length t)) _ d.1 in
      let f = judged_none (room_refusal (2 * (m - 2)) room) _ e.1 in
      let g = judged_none (room_refusal (m * m) space) _ f.1 in
      let i = judged_none (rules_refusal n l) _ g.1 in
      let j = judged_none (cells_refusal n t) _ i.1 in
      let k = judged_none (refuse (is_there n c && is_own_table n t (tree_of n l)) NotOwn) _ j.1 in
      let both = and_both (is_there n c) (is_own_table n t (tree_of n l)) (refuse_none _ NotOwn k.0) in
      let square = length_right _ _ e.0 in
      record {
        count = count_right Counts n a.0;
        new_count = count_right Counts m b.0;
        keeps = record { numbers = length_right _ _ d.0; rules = i.0 };
        cells = square;
        enough = room_right _ _ f.0;
        enough_cells = room_right _ _ g.0;
        there = both.0;
        is_own = (own_exactly n t (tree_of n l) square).0 both.1;
      }

  pub change_passes : Accepted → change_refusal n l t c room space ≡ none
  unfolding change_refusal
  change_passes w =
      judged_passes _ (count_passes Counts n w.count)
      ∙ judged_passes _ (count_passes Counts m w.new_count)
      ∙ judged_passes _ (length_passes _ _ w.keeps.numbers)
      ∙ judged_passes _ (length_passes _ _ w.cells)
      ∙ judged_passes _ (room_passes _ _ w.enough)
      ∙ judged_passes _ (room_passes _ _ w.enough_cells)
      ∙ judged_passes _ w.keeps.rules
      ∙ judged_passes _ ((passes_exactly n t).1 is_table).1
      ∙ judged_alone _
      ∙ refuse_passed NotOwn (rw w.there ((own_exactly n t (tree_of n l) w.cells).1 w.is_own))
    where
      is_table : IsTable n t
      is_table = had_is_table n 1 t (tree_of n l) ((scale_one n t (tree_of n l)).1 w.is_own)

  -- nothing else is refused
  pub accepted_exactly : (change_refusal n l t c room space ≡ none) ↔ Accepted
  accepted_exactly = (accepted_change, change_passes)
