-- What a maker may rely on of a change that is accepted: its listing is the standard one of a tree, whose table is the
-- one that is written; four leaves that stay are paired as before; and pruning the leaf just grafted gives back the old
-- standard listing and the old table.
use mathlib.Core.Path.{◌≡◌, sym, ◌∙◌}
use mathlib.Core.Logic.{◌≢◌}
use mathlib.Core.List.{List}
use mathlib.Core.Option.{none}
use Prim.Native.Nat.{ℕ, ◌+◌, ◌-◌, ◌*◌, ◌≤◌, ◌<◌}
use native.Mathlib.Omega.{arith}
use borrow.Author.Tests.{lt-ltb, ltb-true}
use Rattle.base.proofs.Lists.{length_tab}
use Rattle.refusals.specs.Refusals.{accepted, answered}
use Rattle.refusals.proofs.Answers.{answered_accepted, accepted_same}
use Rattle.trees.specs.Trees.{Tree, IsTree, ordered}
use Rattle.trees.specs.Listings.{KeepsRules, tree_of, standard}
use Rattle.trees.specs.Quartets.{pairing}
use Rattle.trees.specs.Tables.{table_of}
use Rattle.trees.proofs.Rules.{listing_tree}
use Rattle.trees.proofs.Listings.{tree_listing, standard_once, standard_stands}
use Rattle.trees.proofs.Quartets.{ordered_pairing}
use Rattle.spanned_trees.specs.Spans.{lowered}
use Rattle.spanned_trees.proofs.Prunes.{pruned_pairing}
use Rattle.grafted_trees.specs.Grafts.{grafted}
use Rattle.grafted_trees.proofs.Grafts.{grafted_ordered, grafted_pairing}
use Rattle.change_answers.specs.declared.Change.{Change}
use Rattle.change_answers.specs.declared.Change.TheVariants.{Graft, Prune}
use Rattle.change_answers.specs.Operations.{count_after, changed, change_refusal, change_answer, change_table}
use Rattle.change_answers.proofs.Accepted.{Accepted, accepted_change, change_passes}
use Rattle.change_answers.proofs.Changes.{changed_tree, standard_table}
use Rattle.change_answers.proofs.GraftsPruned.{pruned_grafted_listing, pruned_grafted_table}

-- A change that is accepted.
module _ (n : ℕ) (l t : List ℕ) (c : Change) (room space : ℕ) (l' : List ℕ)
    (given : change_answer n l t c room space ≡ accepted l') where
  abbrev m : ℕ
  m = count_after n c

  abbrev X : Tree
  X = changed n (tree_of n l) c

  passed : change_refusal n l t c room space ≡ none
  passed =
      unfold change_answer in (answered_accepted (change_refusal n l t c room space) (standard m X) l' given).0

  pub accepted_all : Accepted n l t c room space
  accepted_all = accepted_change n l t c room space passed

  is_tree : IsTree m X
  is_tree =
      let w = accepted_all in
      changed_tree n w.count (tree_of n l) (listing_tree n w.count l w.keeps) c w.there

  pub listing_is : l' ≡ standard m X
  listing_is =
      unfold change_answer in sym (answered_accepted (change_refusal n l t c room space) (standard m X) l' given).1

  -- the listing keeps the rules, and is the standard one of its tree
  pub change_standard : KeepsRules m l' × (standard m (tree_of m l') ≡ l')
  change_standard =
      let k = accepted_all.new_count in
      rw listing_is ((tree_listing m k X is_tree).0, standard_once m k X is_tree)

  -- the table that is written is the one counted afresh from that tree, so the two may be changed again
  pub change_own_table : change_table n l t c room space ≡ accepted (table_of m (tree_of m l'))
  unfolding change_table answered
  change_own_table = rw (passed, listing_is, standard_table m accepted_all.new_count X is_tree)

  -- what the listing stands for
  stands : tree_of m l' ≡ ordered X
  stands = rw listing_is (standard_stands m accepted_all.new_count X is_tree)

-- Four leaves that stay are paired as before: after a graft under their old numbers, after a prune under their new
-- ones.
pub graft_keeps_pairings :
    (n : ℕ) (l t : List ℕ) (e room space : ℕ) (l' : List ℕ) → change_answer n l t (Graft e) room space ≡ accepted l'
    → (a b c d : ℕ) → a < n → b < n → c < n → d < n
    → pairing (tree_of (n + 1) l') a b c d ≡ pairing (tree_of n l) a b c d
graft_keeps_pairings n l t e room space l' given a b c d la lb lc ld =
    rw (stands n l t (Graft e) room space l' given)
    (ordered_pairing _ a b c d ∙ grafted_pairing n (tree_of n l) e a b c d la lb lc ld)

pub prune_keeps_pairings :
    (n : ℕ) (l t : List ℕ) (x room space : ℕ) (l' : List ℕ) → change_answer n l t (Prune x) room space ≡ accepted l'
    → (a b c d : ℕ) → a < n → b < n → c < n → d < n → a ≢ x → b ≢ x → c ≢ x → d ≢ x
    → pairing (tree_of (n - 1) l') (lowered x a) (lowered x b) (lowered x c) (lowered x d)
    ≡ pairing (tree_of n l) a b c d
prune_keeps_pairings n l t x room space l' given a b c d la lb lc ld da db dc dd =
    let w = accepted_all n l t (Prune x) room space l' given in
    rw (stands n l t (Prune x) room space l' given)
    (ordered_pairing _ (lowered x a) (lowered x b) (lowered x c) (lowered x d)
    ∙ pruned_pairing n (tree_of n l) (listing_tree n w.count l w.keeps) x (ltb-true x n w.there) w.count.0
    a b c d la lb lc ld da db dc dd)

-- Pruning the leaf just grafted, with what the graft wrote and enough room: the old standard listing, and the old
-- table.
module _ (n : ℕ) (l t : List ℕ) (e room space : ℕ) (l' t' : List ℕ)
    (listing : change_answer n l t (Graft e) room space ≡ accepted l')
    (table : change_table n l t (Graft e) room space ≡ accepted t') (room' space' : ℕ) (enough : 2 * (n - 2) ≤ room')
    (enough_cells : n * n ≤ space') where
  w : Accepted n l t (Graft e) room space
  w = accepted_all n l t (Graft e) room space l' listing

  abbrev T : Tree
  T = tree_of n l

  old : IsTree n T
  old = listing_tree n w.count l w.keeps

  -- the graft's listing stands for the grafted tree itself
  again : tree_of (n + 1) l' ≡ grafted n T e
  again = stands n l t (Graft e) room space l' listing ∙ grafted_ordered n T w.count.0 old e

  one_less : n + 1 - 1 ≡ n
  one_less = omega arith

  accepts : change_refusal (n + 1) l' t' (Prune n) room' space' ≡ none
  accepts = change_passes (n + 1) l' t' (Prune n) room' space' (record {
    count = w.new_count;
    new_count = rw one_less w.count;
    keeps = (change_standard n l t (Graft e) room space l' listing).0;
    cells = rw own (unfold table_of in length_tab ((n + 1) * (n + 1)) _);
    enough = rw one_less enough;
    enough_cells = rw one_less enough_cells;
    there = lt-ltb n (n + 1) (omega arith);
    is_own = own;
  })
    where
      own : t' ≡ table_of (n + 1) (tree_of (n + 1) l')
      own = accepted_same _ _ (sym table ∙ change_own_table n l t (Graft e) room space l' listing)

  pub prune_after_graft : change_answer (n + 1) l' t' (Prune n) room' space' ≡ accepted (standard n T)
  unfolding change_answer answered
  prune_after_graft = rw (accepts, one_less, again, pruned_grafted_listing n w.count T old e w.there)

  pub prune_after_graft_table : change_table (n + 1) l' t' (Prune n) room' space' ≡ accepted t
  unfolding change_table answered
  prune_after_graft_table =
      rw (accepts, one_less, again, pruned_grafted_table n w.count T old e w.there, ← w.is_own)
