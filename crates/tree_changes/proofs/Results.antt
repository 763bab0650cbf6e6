-- Both results of a change: a refusal leaves both buffers as they were; else the listing is at the front of the one,
-- and the table of the tree that stands there at the front of the other.
use Rattle.std.specs.Prelude.{Result, Ok}
use mathlib.Core.Path.{◌≡◌, ap, sym, ◌∙◌}
use mathlib.Core.List.{List, ◌++◌}
use mathlib.Core.Option.{Option, none, some}
use Prim.Native.Nat.{ℕ, ◌-◌, ◌*◌}
use lib.ListN.{length, take, drop}
use Rattle.base.proofs.Lists.{length_tab}
use Rattle.limits.specs.Limits.{IsLeafCount}
use Rattle.refusals.specs.declared.Refusal.{Refusal}
use Rattle.refusals.specs.Refusals.{answered, written}
use Rattle.refusals.proofs.Answers.{HandsOn, handed_on, written_refused, written_done}
use Rattle.tree_records.specs.declared.Origin.{Origin}
use Rattle.tree_records.specs.declared.Origin.TheVariants.{Grafted}
use Rattle.tree_records.specs.Records.{marked, tree_outcome}
use Rattle.trees.specs.Trees.{Tree, IsTree}
use Rattle.trees.specs.Listings.{tree_of, standard}
use Rattle.trees.specs.Tables.{table_of}
use Rattle.trees.proofs.FrontListings.{numbers, front}
use Rattle.change_answers.proofs.Changes.{standard_table}

-- A standard listing at the front of a buffer.
module _ (m : ℕ) (c : IsLeafCount m) (T : Tree) (h : IsTree m T) (out rest : List ℕ)
    (put : out ≡ standard m T ++ rest) where
  pub front_table : table_of m (tree_of m (take (2 * (m - 2)) out)) ≡ table_of m T
  front_table = rw (front m c T h out rest put) (standard_table m c T h)

  -- both results as they stand in the buffers
  pub listing_put :
      (old : List ℕ) → rest ≡ drop (2 * (m - 2)) old → out ≡ standard m T ++ drop (length (standard m T)) old
  listing_put old e = put ∙ ap (λ z. standard m T ++ z) (e ∙ ap (λ k. drop k old) (sym (numbers m c T h out rest put)))

  pub table_put :
      (old cells : List ℕ) → cells ≡ table_of m (tree_of m (take (2 * (m - 2)) out)) ++ drop (m * m) old
      → cells ≡ table_of m T ++ drop (length (table_of m T)) old
  unfolding table_of
  table_put old cells e = e ∙ rw (front_table, length_tab (m * m))

-- A call that makes a tree record and has two results, of the refusals o: one arises, and both buffers are as they
-- were; or none does, and both results are written.
module _ (n : ℕ) (o : Option Refusal) (x y out cells : List ℕ) where
  abbrev pub Both : Result Origin Refusal → List ℕ → List ℕ → Type 0
  Both r out' cells' =
      (r ≡ tree_outcome (marked n Grafted (answered o x)))
      × ((out' ≡ written (answered o x) out) × (cells' ≡ written (answered o y) cells))

  pub both_refused : {r : Result Origin Refusal} {e : Refusal} → o ≡ some e → HandsOn r e → Both r out cells
  unfolding tree_outcome marked answered
  both_refused h p =
      (handed_on _ p ∙ rw h, (sym (written_refused o _ x out h), sym (written_refused o _ y cells h)))

  pub both_done :
      {out' cells' : List ℕ} → o ≡ none → out' ≡ x ++ drop (length x) out → cells' ≡ y ++ drop (length y) cells
      → Both (Ok Grafted) out' cells'
  unfolding tree_outcome marked answered
  both_done h e f = (rw h, (e ∙ sym (written_done o x out h), f ∙ sym (written_done o y cells h)))
