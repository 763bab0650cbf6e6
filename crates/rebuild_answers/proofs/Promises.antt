-- What a maker may rely on: what the two rebuilds' answers mean, and what follows of them. The contracts say that the
-- code gives these answers; of a table that passes the checks all is said in merging/proofs/Meaning.antt.
use mathlib.Core.Path.{◌≡◌, sym, ◌∙◌}
use mathlib.Core.Logic.{inl, inr, ◌↔◌}
use mathlib.Core.Bool.{true, false}
use mathlib.Core.List.{List}
use mathlib.Core.Option.{none}
use Prim.Native.Nat.{ℕ, ◌-◌, ◌*◌, ◌≤◌, ◌<◌}
use lib.ListN.{length}
use Rattle.limits.specs.declared.Kind.{Kind}
use Rattle.limits.specs.declared.Kind.TheVariants.{Counts}
use Rattle.limits.specs.Limits.{IsLeafCount, scale_of}
use Rattle.limits.proofs.TableKinds.{scale_bounds}
use Rattle.refusals.specs.declared.Refusal.TheVariants.{NoTree, Proposal}
use Rattle.refusals.specs.Refusals.{Answer, accepted, refused, written}
use Rattle.refusals.specs.Meanings.{Gives}
use Rattle.refusals.proofs.Answers.{unless_accepted, unless_passed, accepted_not_refused}
use Rattle.refusals.proofs.Meanings.{unless_means, unless_fixed, with_meaning}
use Rattle.base.proofs.Bools.{bool?}
use Rattle.trees.specs.Listings.{KeepsRules, tree_of, standard}
use Rattle.trees.specs.Tables.{HasTable}
use Rattle.table_checks.specs.Operations.{table_refusal}
use Rattle.table_checks.proofs.TableRefusal.{Accepted, accepted_table, table_passes}
use Rattle.packed_tables.specs.Packed.{table_with}
use Rattle.packed_tables.proofs.PackedIsTable.{sheet_is_table}
use Rattle.merging.specs.MergeLists.{Pair, after, each_eligible, Finished, subtrees, final_listing}
use Rattle.merging.specs.Rebuilds.{rebuilt, guided}
use Rattle.merging.specs.Demand3.{FirstIneligible}
use Rattle.merging.specs.Meaning.{OnlyTree, HasTree, HasNoTree, TableMeans, ProposalsMean}
use Rattle.merging.proofs.Meaning as meaning
use Rattle.merging.proofs.Rebuilds.{guided_accepted, guided_refused}
use Rattle.rebuild_answers.specs.Operations.{rebuild_answer, proposals, guided_refusal, guided_answer}
use Rattle.rebuild_answers.specs.Meanings.{RebuildMeans, GuidedMeans}
use Rattle.rebuild_answers.proofs.RebuildRefusals.{guided_sizes, many_proposals}

-- For every kind of table, with its scale.
module _ (kind : Kind) where
  abbrev s : ℕ
  s = scale_of kind

  positive : 0 < s
  positive = (scale_bounds kind).0

  module _ (n : ℕ) (t : List ℕ) (room : ℕ) where
    -- The call passes the checks placed before 6.
    module _ (passes : table_refusal kind n t (2 * (n - 2)) room ≡ none) where
      table : Accepted n t (2 * (n - 2)) room
      table = accepted_table kind n t (2 * (n - 2)) room passes

      answer : rebuild_answer kind n t room ≡ rebuilt n s t
      unfolding rebuild_answer
      answer = unless_passed _ _ passes

      table_means : TableMeans n s t (rebuilt n s t)
      table_means = meaning.rebuilt_means n table.count s positive t table.is_table

      -- it is accepted exactly when some tree has the table, and refused with 6 exactly when none has it
      pub accepted_exactly_when : ((l : List ℕ) × (rebuild_answer kind n t room ≡ accepted l)) ↔ HasTree n s t
      accepted_exactly_when = rw answer (meaning.meant_accepted n s t table_means)

      pub refused_exactly_when : (rebuild_answer kind n t room ≡ refused NoTree) ↔ HasNoTree n s t
      refused_exactly_when = rw answer (meaning.meant_refused n s t table_means)

      -- then every finished list of eligible merges leaves more than one subtree
      pub refused_any_order :
          rebuild_answer kind n t room ≡ refused NoTree → (L : List Pair) → Finished n s t L → 1 < subtrees n (after L)
      refused_any_order e = meaning.refused_any_order n table.count s positive t table.is_table (sym answer ∙ e)

    -- what the answer means, and that this fixes it
    pub rebuild_meaning : RebuildMeans kind n t room (rebuild_answer kind n t room)
    unfolding rebuild_answer
    rebuild_meaning = unless_means (TableMeans n s t) _ _ table_means

    pub rebuild_fixed : {a b : Answer (List ℕ)} → RebuildMeans kind n t room a → RebuildMeans kind n t room b → a ≡ b
    rebuild_fixed = unless_fixed (TableMeans n s t) (λ a b m m'. meaning.table_fixed n s t m m')

    -- so a call that gives this answer gives one with this meaning
    pub rebuild_gives :
        {R : Type 0} {r : R} {out out' : List ℕ} (told : Answer (List ℕ) → R)
        → (r ≡ told (rebuild_answer kind n t room)) × (out' ≡ written (rebuild_answer kind n t room) out)
        → (r ≡ told (rebuild_answer kind n t room))
        × ((out' ≡ written (rebuild_answer kind n t room) out) × Gives told (RebuildMeans kind n t room) r out out')
    rebuild_gives told = with_meaning told (RebuildMeans kind n t room) (rebuild_answer kind n t room) rebuild_meaning

    -- The call is accepted, and the listing is l.
    module _ (l : List ℕ) (e : rebuild_answer kind n t room ≡ accepted l) where
      passed : table_refusal kind n t (2 * (n - 2)) room ≡ none
      unfolding rebuild_answer
      passed = (unless_accepted (table_refusal kind n t (2 * (n - 2)) room) (rebuilt n s t) l e).0

      only : OnlyTree n s t l
      only = meaning.meant_only n s t (table_means passed) l (sym (answer passed) ∙ e)

      -- the leaf count is one
      pub rebuilt_leaf_count : IsLeafCount n
      rebuilt_leaf_count = (table passed).count

      -- it keeps the rules, and is the one standard listing of its tree
      pub rebuilt_is_standard : KeepsRules n l × (standard n (tree_of n l) ≡ l)
      rebuilt_is_standard = (only.keeps_rules, only.is_standard)

      -- its tree has the table
      pub rebuilt_has_the_table : HasTable n s t (tree_of n l)
      rebuilt_has_the_table = only.has_table

      -- no other tree has it
      pub rebuilt_is_the_only_one :
          (l' : List ℕ) → KeepsRules n l' → HasTable n s t (tree_of n l') → standard n (tree_of n l') ≡ l
      rebuilt_is_the_only_one = only.no_other

      -- every finished list of eligible merges ends in one tree with that listing
      pub rebuilt_any_order : (L : List Pair) → Finished n s t L → (subtrees n (after L) ≡ 1) × (final_listing n L ≡ l)
      rebuilt_any_order =
          meaning.accepted_any_order n (table passed).count s positive t (table passed).is_table l
          (sym (answer passed) ∙ e)

  module _ (n : ℕ) (t p : List ℕ) (room : ℕ) where
    abbrev L : List Pair
    L = proposals p

    -- The guided rebuild, in a call that passes the checks placed before 12.
    module _ (passes : guided_refusal kind n t p room ≡ none) where
      sizes : (length p ≡ 2 * (n - 1)) × (table_refusal kind n t (2 * (n - 2)) room ≡ none)
      sizes = guided_sizes kind n t p room passes

      guided_is : guided_answer kind n t p room ≡ guided n s t L
      unfolding guided_answer
      guided_is = unless_passed _ _ passes

      guided_table : Accepted n t (2 * (n - 2)) room
      guided_table = table n t room sizes.1

      many : length L ≡ n - 1
      many = many_proposals n p sizes.0

      proposals_mean : ProposalsMean n s t L (guided n s t L)
      proposals_mean =
          meaning.guided_means n guided_table.count s positive t guided_table.is_table L many

      -- where each step names a pair eligible at its turn, it answers as our own rebuild does
      pub guided_as_rebuild :
          each_eligible n s t L ≡ true → guided_answer kind n t p room ≡ rebuild_answer kind n t room
      guided_as_rebuild each =
          guided_is
          ∙ meaning.guided_as_rebuilt n guided_table.count s positive t guided_table.is_table L many each
          ∙ sym (answer n t room sizes.1)

      -- otherwise it is refused with the place of its first step that does not
      pub guided_refused_at :
          each_eligible n s t L ≡ false
          → (k : ℕ) × FirstIneligible n s t L k × (guided_answer kind n t p room ≡ refused (Proposal k))
      guided_refused_at not_each =
          let r = guided_refused n s t L not_each in
          (r.0, r.1, guided_is ∙ r.2)

      -- Gathered: it is accepted exactly when each step names a pair eligible at its turn.
      pub guided_exactly_when :
          ((l : List ℕ) × (guided_answer kind n t p room ≡ accepted l)) ↔ (each_eligible n s t L ≡ true)
      guided_exactly_when = (λ e. each_was e.0 e.1, λ each. has_listing each)
        where
          each_was : (l : List ℕ) → guided_answer kind n t p room ≡ accepted l → each_eligible n s t L ≡ true
          each_was l e = elim (bool? (each_eligible n s t L)) [
            | inl each ↦ each
            | inr not_each ↦ absurd (accepted_not_refused l _ (sym e ∙ (guided_refused_at not_each).2))
          ]

          has_listing :
              each_eligible n s t L ≡ true → (l : List ℕ) × (guided_answer kind n t p room ≡ accepted l)
          has_listing each = (final_listing n L, guided_is ∙ guided_accepted n s t L each)

      -- Then its listing is that of our own rebuild.
      pub guided_same_listing :
          (l : List ℕ) → guided_answer kind n t p room ≡ accepted l → rebuild_answer kind n t room ≡ accepted l
      guided_same_listing l e = sym (guided_as_rebuild (guided_exactly_when.0 (l, e))) ∙ e

      -- Where our own rebuild says 6, every list of proposals is refused with 12.
      pub guided_none :
          rebuild_answer kind n t room ≡ refused NoTree
          → (k : ℕ) × FirstIneligible n s t L k × (guided_answer kind n t p room ≡ refused (Proposal k))
      guided_none six = elim (bool? (each_eligible n s t L)) [
        | inl each ↦
            let l = guided_exactly_when.1 each in
            absurd (accepted_not_refused l.0 NoTree (sym (guided_same_listing l.0 l.1) ∙ six))
        | inr not_each ↦ guided_refused_at not_each
      ]

    -- what the answer means, and that this fixes it
    pub guided_meaning : GuidedMeans kind n t p room (guided_answer kind n t p room)
    unfolding guided_answer
    guided_meaning = unless_means (ProposalsMean n s t L) _ _ proposals_mean

    pub guided_fixed : {a b : Answer (List ℕ)} → GuidedMeans kind n t p room a → GuidedMeans kind n t p room b → a ≡ b
    guided_fixed =
        unless_fixed (ProposalsMean n s t L) (λ a b m m'. meaning.proposals_fixed n s t L m m')

    -- so a call that gives this answer gives one with this meaning
    pub guided_gives :
        {R : Type 0} {r : R} {out out' : List ℕ} (told : Answer (List ℕ) → R)
        → (r ≡ told (guided_answer kind n t p room)) × (out' ≡ written (guided_answer kind n t p room) out)
        → (r ≡ told (guided_answer kind n t p room))
        × ((out' ≡ written (guided_answer kind n t p room) out) × Gives told (GuidedMeans kind n t p room) r out out')
    guided_gives told = with_meaning told (GuidedMeans kind n t p room) (guided_answer kind n t p room) guided_meaning

-- A table of counts made of the cells c above the diagonal: 4 and 5 never arise, and where the sizes are right, our own
-- rebuild decides.
pub mirrored_rebuilt :
    (n : ℕ) (c : List ℕ) (room : ℕ) → IsLeafCount n → 2 * (n - 2) ≤ room
    → rebuild_answer Counts n (table_with n c) room ≡ rebuilt n 1 (table_with n c)
mirrored_rebuilt n c room count enough =
    answer Counts n (table_with n c) room (table_passes Counts n _ _ room count (sheet_is_table n c) enough)
