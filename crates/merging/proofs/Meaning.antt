-- What the answers of the two rebuilds mean, of a table with a zero diagonal and equal halves: they mean what
-- specs/Meaning.antt says, which fixes them. It follows from demand 3, and so does that every order of eligible merges
-- ends alike.
use mathlib.Core.Path.{◌≡◌, refl, ap, sym, ◌∙◌}
use mathlib.Core.Logic.{◌⊎◌, inl, inr, ◌↔◌}
use mathlib.Core.Bool.{true}
use mathlib.Core.List.{List}
use mathlib.Core.Option.{none}
use Prim.Native.Nat.{ℕ, ◌-◌, ◌<◌}
use native.Mathlib.Omega.{arith}
use lib.ListN.{length}
use Rattle.base.proofs.Bools.{bool?}
use Rattle.limits.specs.Limits.{IsLeafCount}
use Rattle.refusals.specs.declared.Refusal.TheVariants.{NoTree, Proposal}
use Rattle.refusals.specs.Refusals.{Answer, accepted, refused}
use Rattle.refusals.proofs.Answers.{accepted_same, accepted_not_refused}
use Rattle.trees.specs.Listings.{KeepsRules, tree_of, standard}
use Rattle.trees.specs.Tables.{HasTable, IsTable}
use Rattle.merging.specs.MergeLists.{Pair, after, each_eligible, Finished, subtrees, final_listing}
use Rattle.merging.specs.Rebuilds.{rebuilt, guided}
use Rattle.merging.specs.Demand3.{OneTree, NoTreeHas, FirstIneligible}
use Rattle.merging.specs.Meaning.{OnlyTree, HasTree, HasNoTree, TableMeans, the_only_tree, no_tree}
use Rattle.merging.specs.Meaning.{ProposalsMean, each_is_eligible, one_is_not}
use Rattle.merging.proofs.Rebuilds.{own_list, own_finished, guided_accepted, guided_refused, first_refused}
use Rattle.merging.proofs.Demand3.{demand_3, guided_own}

-- two listings of the only tree that has a table are one
pub only_one : (n s : ℕ) (t l l' : List ℕ) → OnlyTree n s t l → OnlyTree n s t l' → l ≡ l'
only_one n s t l l' h h' = sym h.is_standard ∙ h'.no_other l h.keeps_rules h.has_table

-- the meaning of our own rebuild's answer, and what follows of an answer that has it
module _ (n s : ℕ) (t : List ℕ) where
  pub meant_only : {a : Answer (List ℕ)} → TableMeans n s t a → (l : List ℕ) → a ≡ accepted l → OnlyTree n s t l
  meant_only (the_only_tree h) l e = rw (accepted_same _ l e) at h
  meant_only (no_tree h) l e = absurd (accepted_not_refused l NoTree (sym e))

  pub meant_accepted : {a : Answer (List ℕ)} → TableMeans n s t a → ((l : List ℕ) × (a ≡ accepted l)) ↔ HasTree n s t
  meant_accepted (the_only_tree {l} h) = (λ e. (l, h.keeps_rules, h.has_table), λ e. (l, refl))
  meant_accepted (no_tree h) = (
    λ e. absurd (accepted_not_refused e.0 NoTree (sym e.1)),
    λ e. absurd (h e.0 e.1 e.2),
  )

  pub meant_refused : {a : Answer (List ℕ)} → TableMeans n s t a → (a ≡ refused NoTree) ↔ HasNoTree n s t
  meant_refused (the_only_tree {l} h) = (
    λ e. absurd (accepted_not_refused l NoTree e),
    λ none. absurd (none l h.keeps_rules h.has_table),
  )
  meant_refused (no_tree h) = (λ e. h, λ e. refl)

  pub table_fixed : {a b : Answer (List ℕ)} → TableMeans n s t a → TableMeans n s t b → a ≡ b
  table_fixed (the_only_tree h) g =
      let some_tree = (meant_accepted g).1 (_, h.keeps_rules, h.has_table) in
      ap accepted (only_one n s t _ _ h (meant_only g some_tree.0 some_tree.1)) ∙ sym some_tree.1
  table_fixed (no_tree h) g = sym ((meant_refused g).1 h)

  -- the meaning of a guided rebuild's answer fixes it too
  not_both : (L : List Pair) (k : ℕ) → each_eligible n s t L ≡ true → FirstIneligible n s t L k → ⊥
  not_both L k e f =
      accepted_not_refused (final_listing n L) (Proposal k)
      (sym (guided_accepted n s t L e) ∙ first_refused n s t L k f)

  pub proposals_fixed :
      (L : List Pair) {a b : Answer (List ℕ)} → ProposalsMean n s t L a → ProposalsMean n s t L b → a ≡ b
  proposals_fixed L (each_is_eligible e h) (each_is_eligible e' h') = ap accepted (only_one n s t _ _ h h')
  proposals_fixed L (each_is_eligible e h) (one_is_not f) = absurd (not_both L _ e f)
  proposals_fixed L (one_is_not f) (each_is_eligible e h) = absurd (not_both L _ e f)
  proposals_fixed L (one_is_not f) (one_is_not f') =
      sym (first_refused n s t L _ f) ∙ first_refused n s t L _ f'

-- A table with a zero diagonal and equal halves, at the scale s.
module _ (n : ℕ) (count : IsLeafCount n) (s : ℕ) (sp : 0 < s) (t : List ℕ) (table : IsTable n t) where
  own : List Pair
  own = own_list n s t

  -- demand 3, of our own list of merges
  either : OneTree n s t own ⊎ NoTreeHas n s t own
  unfolding own
  either = demand_3 n count s sp t table (own_list n s t) (own_finished n s t (omega (arith, count.0)))

  only_left : OneTree n s t own → OnlyTree n s t (final_listing n own)
  only_left one = record {
    keeps_rules = one.is_a_tree;
    is_standard = one.is_standard;
    has_table = one.has_the_table;
    no_other = one.is_the_only_one;
  }

  pub rebuilt_means : TableMeans n s t (rebuilt n s t)
  rebuilt_means = elim either [
    | inl one ↦ rw one.from_c (the_only_tree (only_left one))
    | inr several ↦ rw several.from_c (no_tree several.none_has_the_table)
  ]

  -- a table that a tree has gets that tree
  pub rebuilt_had :
      (l : List ℕ) → KeepsRules n l → HasTable n s t (tree_of n l) → rebuilt n s t ≡ accepted (standard n (tree_of n l))
  rebuilt_had l k has =
      let a = (meant_accepted n s t rebuilt_means).1 (l, k, has) in
      a.1 ∙ ap accepted (sym ((meant_only n s t rebuilt_means a.0 a.1).no_other l k has))

  -- every finished list of eligible merges ends in the one tree, or each leaves more than one subtree
  pub accepted_any_order :
      (l : List ℕ) → rebuilt n s t ≡ accepted l → (L : List Pair) → Finished n s t L
      → (subtrees n (after L) ≡ 1) × (final_listing n L ≡ l)
  accepted_any_order l e L f = elim either [
    | inl one ↦
        let r = one.every_other_list L f in
        (r.0, r.1 ∙ accepted_same _ l (sym one.from_c ∙ e))
    | inr several ↦ absurd (accepted_not_refused l NoTree (sym e ∙ several.from_c))
  ]

  pub refused_any_order :
      rebuilt n s t ≡ refused NoTree → (L : List Pair) → Finished n s t L → 1 < subtrees n (after L)
  refused_any_order e L f = elim either [
    | inl one ↦ absurd (accepted_not_refused _ NoTree (sym one.from_c ∙ e))
    | inr several ↦ several.every_other_list L f
  ]

  -- n − 1 proposals
  module _ (L : List Pair) (many : length L ≡ n - 1) where
    pub guided_as_rebuilt : each_eligible n s t L ≡ true → guided n s t L ≡ rebuilt n s t
    guided_as_rebuilt e = guided_own n count s sp t table L many e

    pub guided_means : ProposalsMean n s t L (guided n s t L)
    guided_means = elim (bool? (each_eligible n s t L)) [
      | inl e ↦
          let given = guided_accepted n s t L e in
          let only = meant_only n s t rebuilt_means (final_listing n L) (sym (guided_as_rebuilt e) ∙ given) in
          rw given (each_is_eligible e only)
      | inr f ↦ (let r = guided_refused n s t L f in rw r.2 (one_is_not r.1))
    ]
