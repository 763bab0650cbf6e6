-- What is so exactly where a look is not refused; and where the sizes are right, a look is refused as a graft is, and
-- then by the cells of the new table.
use mathlib.Core.Path.{◌≡◌, sym, ◌∙◌}
use mathlib.Core.Logic.{◌↔◌}
use mathlib.Core.Bool.{Bool, true, ◌&&◌}
use mathlib.Core.List.{List, [], ◌∷◌}
use mathlib.Core.Option.{Option, none}
use Prim.Native.Nat.{ℕ, ◌+◌, ◌-◌, ◌*◌, ◌≤◌}
use native.Mathlib.Omega.{arith}
use lib.ListN.{length}
use Rattle.base.proofs.Bools.{and_both}
use Rattle.limits.specs.declared.Kind.{Kind}
use Rattle.limits.specs.declared.Kind.TheVariants.{Counts}
use Rattle.limits.specs.Limits.{IsLeafCount, IsCountOf}
use Rattle.limits.proofs.TableKinds.{leaf_count_of}
use Rattle.refusals.specs.declared.Refusal.{Refusal}
use Rattle.refusals.specs.declared.Refusal.TheVariants.{NotOwn}
use Rattle.refusals.specs.Refusals.{refuse, judged}
use Rattle.refusals.proofs.Answers.{refuse_passed, refuse_none, judged_passes, judged_alone, judged_none, judged_nest}
use Rattle.checks.specs.Sizes.{count_refusal, count_refusal_of, length_refusal, room_refusal}
use Rattle.checks.proofs.Sizes.{count_passes, count_right, length_passes, length_right, room_passes, room_right}
use Rattle.trees.specs.Listings.{rules_refusal, KeepsRules, tree_of}
use Rattle.trees.specs.Tables.{table_of, is_own_table, IsTable, cells_refusal}
use Rattle.trees.proofs.Tables.{passes, passes_exactly, had_is_table, scale_one, own_exactly}
use Rattle.grafted_trees.specs.Grafts.{names_edge}
use Rattle.change_answers.specs.declared.Change.TheVariants.{Graft}
use Rattle.change_answers.specs.Operations.{change_refusal}
use Rattle.look_answers.specs.Operations.{look_refusal}

module _ (kind : Kind) (n : ℕ) (l t u : List ℕ) (there : Bool) (due room : ℕ) where
  -- the edge, and whether the table is the tree's own
  abbrev own : Option Refusal
  own = refuse (there && is_own_table n t (tree_of n l)) NotOwn

  -- no size is refused
  pub record RightSizes : Type 0 where
    pub count : IsLeafCount n
    pub new_count : IsCountOf kind (n + 1)
    pub numbers : length l ≡ 2 * (n - 2)
    pub cells : length t ≡ n * n
    pub new_cells : length u ≡ (n + 1) * (n + 1)
    pub enough : due ≤ room

  pub sizes_pass :
      RightSizes
      → look_refusal kind n l t u there due room
      ≡ judged (rules_refusal n l ∷ cells_refusal n t ∷ own ∷ cells_refusal (n + 1) u ∷ [])
  unfolding look_refusal
  sizes_pass w =
      judged_passes _ (count_passes Counts n w.count)
      ∙ judged_passes _ (count_passes kind (n + 1) w.new_count)
      ∙ judged_passes _ (length_passes _ _ w.numbers)
      ∙ judged_passes _ (length_passes _ _ w.cells)
      ∙ judged_passes _ (length_passes _ _ w.new_cells)
      ∙ judged_passes _ (room_passes _ _ w.enough)

  -- nothing is refused
  pub record Accepted : Type 0 where
    pub sizes : RightSizes
    pub keeps : KeepsRules n l
    pub is_there : there ≡ true
    pub is_own : t ≡ table_of n (tree_of n l)
    pub is_table : IsTable (n + 1) u

  pub accepted_look : look_refusal kind n l t u there due room ≡ none → Accepted
  unfolding look_refusal
  accepted_look h =
      let a = judged_none (count_refusal n) _ h in
      let b = judged_none (count_refusal_of kind (n + 1)) _ a.1 in
      let d = judged_none (length_refusal (2 * (n - 2)) (length l)) _ b.1 in
      let e = judged_none (length_refusal (n * n) (length t)) _ d.1 in
      let f = judged_none (length_refusal ((n + 1) * (n + 1)) (length u)) _ e.1 in
      let g = judged_none (room_refusal due room) _ f.1 in
      let i = judged_none (rules_refusal n l) _ g.1 in
      let j = judged_none (cells_refusal n t) _ i.1 in
      let k = judged_none own _ j.1 in
      let m = judged_none (cells_refusal (n + 1) u) _ k.1 in
      let both = and_both there (is_own_table n t (tree_of n l)) (refuse_none _ NotOwn k.0) in
      let sizes : RightSizes = record {
        count = count_right Counts n a.0;
        new_count = count_right kind (n + 1) b.0;
        numbers = length_right _ _ d.0;
        cells = length_right _ _ e.0;
        new_cells = length_right _ _ f.0;
        enough = room_right _ _ g.0;
      } in
      record {
        sizes = sizes;
        keeps = record { numbers = sizes.numbers; rules = i.0 };
        is_there = both.0;
        is_own = (own_exactly n t (tree_of n l) sizes.cells).0 both.1;
        is_table = passes (n + 1) u sizes.new_cells m.0;
      }

  pub look_passes : Accepted → look_refusal kind n l t u there due room ≡ none
  look_passes w =
      sizes_pass w.sizes
      ∙ judged_passes _ w.keeps.rules
      ∙ judged_passes _ ((passes_exactly n t).1 kept_table).1
      ∙ judged_passes _
      (refuse_passed NotOwn (rw w.is_there ((own_exactly n t (tree_of n l) w.sizes.cells).1 w.is_own)))
      ∙ judged_alone _
      ∙ ((passes_exactly (n + 1) u).1 w.is_table).1
    where
      kept_table : IsTable n t
      kept_table = had_is_table n 1 t (tree_of n l) ((scale_one n t (tree_of n l)).1 w.is_own)

  -- nothing else is refused
  pub looked_exactly : (look_refusal kind n l t u there due room ≡ none) ↔ Accepted
  looked_exactly = (accepted_look, look_passes)

-- Where the sizes are right, and a graft has room for its results, what is refused of a look is what is refused of the
-- graft, and then the cells of the new table.
pub look_refused_with_graft :
    (kind : Kind) (n : ℕ) (l t u : List ℕ) (e due room : ℕ) → RightSizes kind n l t u (names_edge n e) due room
    → (graft_room space : ℕ) → 2 * (n - 1) ≤ graft_room → (n + 1) * (n + 1) ≤ space
    → look_refusal kind n l t u (names_edge n e) due room
    ≡ judged (change_refusal n l t (Graft e) graft_room space ∷ cells_refusal (n + 1) u ∷ [])
unfolding change_refusal
look_refused_with_graft kind n l t u e due room w graft_room space long square =
    sizes_pass kind n l t u (names_edge n e) due room w
    ∙ judged_nest (rules_refusal n l ∷ cells_refusal n t ∷ fit ∷ []) (cells_refusal (n + 1) u ∷ [])
    ∙ rw (sym as_graft)
  where
    fit : Option Refusal
    fit = refuse (names_edge n e && is_own_table n t (tree_of n l)) NotOwn

    as_graft :
        change_refusal n l t (Graft e) graft_room space
        ≡ judged (rules_refusal n l ∷ cells_refusal n t ∷ fit ∷ [])
    as_graft =
        judged_passes _ (count_passes Counts n w.count)
        ∙ judged_passes _ (count_passes Counts (n + 1) (leaf_count_of kind (n + 1) w.new_count))
        ∙ judged_passes _ (length_passes _ _ w.numbers)
        ∙ judged_passes _ (length_passes _ _ w.cells)
        ∙ judged_passes _ (room_passes _ _ (omega (arith, w.count)))
        ∙ judged_passes _ (room_passes _ _ square)
