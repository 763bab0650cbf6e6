-- Import gives the standard listing of the tree that a text draws: it has the edges that the text names, and no other.
-- The idea: the sides that a text names are the parts of a tree held at an edge, and rerooting keeps the edges of that.
use mathlib.Core.Path.{◌≡◌, refl, ap, sym, ◌∙◌}
use mathlib.Core.Logic.{inl, inr}
use mathlib.Core.Bool.{true}
use mathlib.Core.List.{List}
use Prim.Native.Nat.{ℕ, suc, ◌≤◌, ◌<◌}
use native.Mathlib.Omega.{arith}
use borrow.Author.Tests.{leb-true}
use lib.Dec.{leb}
use Rattle.base.specs.Lists.{any_in}
use Rattle.base.proofs.Bools.{bool?, never, and_both}
use Rattle.limits.specs.Limits.{IsLeafCount}
use Rattle.refusals.specs.declared.Refusal.TheVariants.{Grammar, NotBinary, Unmatched}
use Rattle.refusals.specs.Refusals.{Answer, accepted, refuse, judged, answered}
use Rattle.refusals.proofs.Answers.{accepted_same, accepted_not_refused}
use Rattle.trees.specs.Trees.{Tree, node, leaves, IsTree, ordered}
use Rattle.trees.specs.Rerooting.{IsHeld, rerooted}
use Rattle.trees.specs.Listings.{tree_of, standard}
use Rattle.trees.specs.Edges.{one_edge, is_edge}
use Rattle.trees.proofs.Subtrees.{In, in_whole, Part, Same, same_trans, one_edge_is, subtree_edge, every_edge}
use Rattle.trees.proofs.Subtrees.{ordered_to, ordered_of}
use Rattle.trees.proofs.Rerooting.{held_on, held_same, rerooted_tree, rerooted_side, rerooted_part}
use Rattle.trees.proofs.Rules.{listing_tree}
use Rattle.trees.proofs.Listings.{tree_listing, standard_stands, standard_once}
use Rattle.sheet_rules.specs.Sheets.{between}
use Rattle.newick_rules.specs.Drawings.{Drawing, name, bracket, Parts, one, more, names_in}
use Rattle.newick_rules.specs.Reader.{Reading, draws, breaks, read}
use Rattle.newick_rules.specs.Writings.{Right}
use Rattle.newick_rules.specs.Exporting.{exported}
use Rattle.newick_rules.specs.Importing.{ways, binary_parts, binary_top, nodes_refusal, each_once}
use Rattle.newick_rules.specs.Importing.{strains_refusal, subtree, subtree_of_parts, tree_drawn, deepest}
use Rattle.newick_rules.specs.Importing.{imported}
use Rattle.newick_rules.specs.Operations.{Strains}
use Rattle.newick_rules.specs.Meanings.{sides_of_parts, Draws, Imported}
use Rattle.newick_rules.specs.Meanings.{Says, breaks_here, no_binary, wrong_names, lists}
use Rattle.newick_rules.proofs.ReaderLaws.{reads, reader_breaks}
use Rattle.newick_rules.proofs.DrawnTrees.{drawn_held}
use Rattle.newick_rules.proofs.Exports.{import_export}
use Rattle.newick_rules.proofs.Sides.{InParts, parts_in, few_parts, every_part, any_part}

-- A tree held at an edge: rerooted and in standard order, its edges are the same.
abbrev standard_tree : Tree → Tree
standard_tree R = ordered (rerooted R)

module _ (n : ℕ) (R : Tree) (many : 1 < n) (h : IsHeld n R) where
  part_edge : (X : Tree) → Part X R → is_edge n (standard_tree R) (leaves X) ≡ true
  part_edge X p =
      let r = rerooted_side n R many h X p in
      let o = ordered_to (rerooted R) r.0 r.1 in
      subtree_edge n (standard_tree R) X o.0 o.1 (same_trans n X r.0 o.0 r.2 (inl (λ k l. o.2 k)))

  edge_part : (Y : Tree) → In Y (standard_tree R) → (X : Tree) × Part X R × Same n Y X
  edge_part Y i =
      let o = ordered_of (rerooted R) Y i in
      let r = rerooted_part n R many h o.0 o.1 in
      (r.0, r.1, same_trans n Y o.0 r.0 (inl (λ k l. sym (o.2 k))) r.2)

-- A top of two or three binary parts, of which p are all but the last, d.
module _ (n : ℕ) (known : List (List ℕ)) (p : Parts) (d : Drawing) where
  abbrev A : Tree
  A = subtree_of_parts known p

  abbrev B : Tree
  B = subtree known d

  module _ (many : 1 < n) (h : IsHeld n (node A B)) (few : ways p ≤ 2) (b : binary_parts (more p d) ≡ true) where
    named_side :
        (Y X : Tree) → InParts known X (more p d) → Same n Y X
        → any_in (one_edge n (leaves Y)) (sides_of_parts known (more p d)) ≡ true
    named_side Y X u e = any_part known (one_edge n (leaves Y)) (more p d) b X u (one_edge_is n Y X e)

    -- a part of the tree is a subtree of a part of the top, or both of the top's first two; the other side is then d's
    some_side :
        (Y X : Tree) → Part X (node A B) → Same n Y X
        → any_in (one_edge n (leaves Y)) (sides_of_parts known (more p d)) ≡ true
    some_side Y X g e = elim g [
      | inl a ↦ elim (few_parts known p few X a) [
        | inl q ↦
            named_side Y B (inr (in_whole B))
            (same_trans n Y A B (rw q at e) (held_same n A B (held_on n (node A B) h)))
        | inr u ↦ named_side Y X (inl u) e
      ]
      | inr v ↦ named_side Y X (inr v) e
    ]

    top_part : (X : Tree) → InParts known X (more p d) → Part X (node A B)
    top_part X i = elim i [ inl u ↦ inl (parts_in known p X u) | inr v ↦ inr v ]

    tree_draws : Draws n known (more p d) (standard_tree (node A B))
    tree_draws = record {
      each_is_a_side = every_part known _ (more p d) (λ X i. part_edge n (node A B) many h X (top_part X i));
      no_other_edge =
          every_edge (λ e. any_in (one_edge n e) (sides_of_parts known (more p d))) (standard_tree (node A B))
          (λ Y i. let q = edge_part n (node A B) many h Y i in some_side Y q.0 q.1 q.2);
    }

-- a text that import takes
taken :
    (n : ℕ) (known : List (List ℕ)) (t : List ℕ) (d : Drawing) → IsLeafCount n → Strains n known → Right deepest t d
    → binary_top d ≡ true → each_once known (names_in d) ≡ true → Imported n known t (standard n (tree_drawn known d))
unfolding binary_top ways tree_drawn subtree names_in
taken n known t (name x) c s R b o = absurd (never b refl)
taken n known t (bracket (one d)) c s R b o = absurd (never b refl)
taken n known t (bracket (more p d)) c s R b o =
    let held = drawn_held n known s (bracket (more p d)) o in
    let many : 1 < n = omega (arith, c.0) in
    let T = rerooted (node (A n known p d) (B n known p d)) in
    let tree = rerooted_tree n (node (A n known p d) (B n known p d)) many held in
    let q = and_both (between 2 3 (suc (ways p))) (binary_parts (more p d)) b in
    let few = leb-true (suc (ways p)) 3 (and_both (leb 2 (suc (ways p))) (leb (suc (ways p)) 3) q.0).1 in
    record {
      parts = more p d;
      is_right = R;
      is_binary = b;
      names_once = o;
      keeps = (tree_listing n c T tree).0;
      is_standard = standard_once n c T tree;
      tree = rw (standard_stands n c T tree) (tree_draws n known p d many held (omega (arith, few)) q.1);
    }

-- what import answers
pub import_says :
    (n : ℕ) (known : List (List ℕ)) (t : List ℕ) → IsLeafCount n → Strains n known → Says n known t (imported known t)
unfolding imported nodes_refusal strains_refusal refuse judged answered
import_says n known t c s = go (read deepest t) refl
  where
    drawn_says : (d : Drawing) → read deepest t ≡ draws d → Says n known t (imported known t)
    drawn_says d e = elim (bool? (binary_top d)) [
      | inl b ↦ elim (bool? (each_once known (names_in d))) [
        | inl o ↦
            let l = standard n (tree_drawn known d) in
            rw (e, imported, b, o, s.many) (lists l (taken n known t d c s ((reads deepest t d).0 e) b o))
        | inr o ↦ rw (e, imported, b, o) (wrong_names d ((reads deepest t d).0 e) b o)
      ]
      | inr b ↦ rw (e, imported, b) (no_binary d ((reads deepest t d).0 e) b)
    ]

    go : (r : Reading) → read deepest t ≡ r → Says n known t (imported known t)
    go (breaks k) e = rw (e, imported) (breaks_here k ((reader_breaks deepest (omega arith) t k).0 e))
    go (draws d) e = drawn_says d e

-- so a listing that it gives is that of the tree that the text draws
said :
    (n : ℕ) (known : List (List ℕ)) (t : List ℕ) (a : Answer (List ℕ)) → Says n known t a → (l : List ℕ)
    → a ≡ accepted l → Imported n known t l
said n known t a (breaks_here k b) l e = absurd (accepted_not_refused l (Grammar k) (sym e))
said n known t a (no_binary d r b) l e = absurd (accepted_not_refused l NotBinary (sym e))
said n known t a (wrong_names d r b o) l e = absurd (accepted_not_refused l Unmatched (sym e))
said n known t a (lists l' I) l e = rw (accepted_same l' l e) at I

pub import_right :
    (n : ℕ) (known : List (List ℕ)) (t l : List ℕ) → IsLeafCount n → Strains n known → imported known t ≡ accepted l
    → Imported n known t l
import_right n known t l c s h = said n known t (imported known t) (import_says n known t c s) l h

-- and the export of what import gives is imported as the same
pub import_again :
    (n : ℕ) (known : List (List ℕ)) (t l : List ℕ) → IsLeafCount n → Strains n known → imported known t ≡ accepted l
    → imported known (exported known (tree_of n l)) ≡ accepted l
import_again n known t l c s h =
    let I = import_right n known t l c s h in
    import_export n known (tree_of n l) c s (listing_tree n c l I.keeps) ∙ ap accepted I.is_standard

-- import depends on what a text draws alone: two right texts of one drawing, with whatever blanks and lengths, are
-- imported alike
pub import_alike :
    (known : List (List ℕ)) (t t' : List ℕ) (d : Drawing) → Right deepest t d → Right deepest t' d
    → imported known t ≡ imported known t'
unfolding imported
import_alike known t t' d R R' = rw ((reads deepest t d).1 R, imported, (reads deepest t' d).1 R', imported)
