-- A text draws one tree only: two trees with the edges that it names, and no other, have the same edges, and so one
-- standard listing. So what import is to say fixes its answer.
use mathlib.Core.Path.{◌≡◌, refl, ap, sym, ◌∙◌}
use mathlib.Core.Logic.{inl, inr}
use mathlib.Core.Bool.{true, not, not-not}
use mathlib.Core.List.{List, [], ◌∷◌}
use Prim.Native.Nat.{ℕ}
use native.Mathlib.Omega.{arith}
use lib.ListN.{length}
use Rattle.base.specs.Lists.{any_in, all_in}
use Rattle.base.proofs.Bools.{never, or_cases, and_both, and_is}
use Rattle.limits.specs.Limits.{IsLeafCount}
use Rattle.refusals.specs.Refusals.{Answer, accepted, refuse, judged, answered}
use Rattle.trees.specs.Trees.{Tree, LeafSet, leaves, IsTree}
use Rattle.trees.specs.Listings.{tree_of, standard}
use Rattle.trees.specs.Edges.{edges, one_edge, is_edge, same_edges}
use Rattle.trees.proofs.Subtrees.{the_edge, every_edge, each_edge, Same, one_edge_same, subtree_edge}
use Rattle.trees.proofs.Rules.{listing_tree}
use Rattle.merging.proofs.SameTree.{same_listing}
use Rattle.newick_rules.specs.Drawings.{bracket, Parts, names_in}
use Rattle.newick_rules.specs.Reader.{draws}
use Rattle.newick_rules.specs.Writings.{Right}
use Rattle.newick_rules.specs.Importing.{nodes_refusal, strains_refusal, tree_drawn, deepest, imported}
use Rattle.newick_rules.specs.Operations.{Strains}
use Rattle.newick_rules.specs.Meanings.{sides_of_parts, Draws, Imported}
use Rattle.newick_rules.specs.Meanings.{Says, breaks_here, no_binary, wrong_names, lists}
use Rattle.newick_rules.proofs.ReaderLaws.{reads, reader_breaks}
use Rattle.newick_rules.proofs.Imports.{import_right}

module _ (n : ℕ) where
  -- two subtrees that have an edge with one side in common
  edge_through :
      (e : LeafSet) (X Y : Tree) → one_edge n (leaves X) e ≡ true → one_edge n e (leaves Y) ≡ true → Same n X Y
  edge_through e X Y h g = elim (one_edge_same n (leaves X) e h) [
    | inl a ↦ elim (one_edge_same n e (leaves Y) g) [
      | inl b ↦ inl (λ k l. a k l ∙ b k l)
      | inr b ↦ inr (λ k l. a k l ∙ b k l)
    ]
    | inr a ↦ elim (one_edge_same n e (leaves Y) g) [
      | inl b ↦ inr (λ k l. a k l ∙ ap not (b k l))
      | inr b ↦ inl (λ k l. a k l ∙ ap not (b k l) ∙ not-not (leaves Y k))
    ]
  ]

  -- an edge that is a side of the text is an edge of each tree that the text draws
  side_edge :
      (T X : Tree) (l : List LeafSet) → all_in (is_edge n T) l ≡ true → any_in (one_edge n (leaves X)) l ≡ true
      → is_edge n T (leaves X) ≡ true
  unfolding all_in any_in is_edge
  side_edge T X [] p h = absurd (never h refl)
  side_edge T X (e ∷ l) p h =
      let q = and_both (is_edge n T e) (all_in (is_edge n T) l) p in
      elim (or_cases (one_edge n (leaves X) e) (any_in (one_edge n (leaves X)) l) h) [
        | inl u ↦
            let y = the_edge (one_edge n e) T q.0 in
            subtree_edge n T X y.0 y.1 (edge_through e X y.0 u y.2)
        | inr v ↦ side_edge T X l q.1 v
      ]

  module _ (known : List (List ℕ)) (p : Parts) where
    edges_in : (T T' : Tree) → Draws n known p T → Draws n known p T' → all_in (is_edge n T') (edges T) ≡ true
    edges_in T T' D D' =
        let l = sides_of_parts known p in
        every_edge (is_edge n T') T (λ X i.
        side_edge T' X l D'.each_is_a_side (each_edge (λ e. any_in (one_edge n e) l) T D.no_other_edge X i))

    one_tree :
        (T T' : Tree) → IsLeafCount n → IsTree n T → IsTree n T' → Draws n known p T → Draws n known p T'
        → standard n T ≡ standard n T'
    one_tree T T' c h h' D D' =
        (same_listing n c T T' h h').0 (unfold same_edges in and_is _ _ (edges_in T T' D D') (edges_in T' T D' D))

-- the listing that import gives is that of the only tree that the text draws
pub import_only :
    (n : ℕ) (known : List (List ℕ)) (t l : List ℕ) → IsLeafCount n → (I : Imported n known t l) (T : Tree) → IsTree n T
    → Draws n known I.parts T → standard n T ≡ l
import_only n known t l c I T h D =
    one_tree n known I.parts T (tree_of n l) c h (listing_tree n c l I.keeps) D I.tree ∙ I.is_standard

-- two right readings of a text have one drawing
one_parts : (t : List ℕ) (p q : Parts) → Right deepest t (bracket p) → Right deepest t (bracket q) → p ≡ q
one_parts t p q R R' =
    let e : draws (bracket p) ≡ draws (bracket q) =
    sym ((reads deepest t (bracket p)).1 R) ∙ (reads deepest t (bracket q)).1 R' in
    cc

-- no answer but import's means what import is to say
pub says_only :
    (n : ℕ) (known : List (List ℕ)) (t : List ℕ) → IsLeafCount n → Strains n known → (a : Answer (List ℕ))
    → Says n known t a → a ≡ imported known t
unfolding imported nodes_refusal strains_refusal refuse judged answered names_in
says_only n known t c s a (breaks_here k b) = rw ((reader_breaks deepest (omega arith) t k).1 b, imported)
says_only n known t c s a (no_binary d R b) = rw ((reads deepest t d).1 R, imported, b)
says_only n known t c s a (wrong_names d R b o) = rw ((reads deepest t d).1 R, imported, b, o)
says_only n known t c s a (lists l I) =
    let l' = standard (length known) (tree_drawn known (bracket I.parts)) in
    let gives : imported known t ≡ accepted l' =
    rw ((reads deepest t (bracket I.parts)).1 I.is_right, imported, I.is_binary, I.names_once) in
    let I' = import_right n known t l' c s gives in
    let same = one_parts t I'.parts I.parts I'.is_right I.is_right in
    let T = tree_of n l' in
    let only = import_only n known t l c I T (listing_tree n c l' I'.keeps) (rw same at I'.tree) in
    ap accepted (sym only ∙ I'.is_standard) ∙ sym gives
