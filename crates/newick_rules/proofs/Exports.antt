-- Export then read gives back the drawing, and export then import the tree: its standard listing. The idea: the drawing
-- of a tree, as a subtree, is the tree with leaf 0 put on.
use mathlib.Core.Path.{◌≡◌, refl, sym, ◌∙◌}
use mathlib.Core.Bool.{Bool, true}
use mathlib.Core.List.{List, [], ◌∷◌, ◌++◌, append_assoc}
use Prim.Native.Nat.{ℕ, suc, ◌≤◌, ◌<◌}
use native.Mathlib.Omega.{arith}
use borrow.Author.Tests.{eq-eqb, lt-ltb}
use lib.Dec.{eqb}
use lib.ListN.{get_or}
use Rattle.base.specs.Lists.{any_in, all_in}
use Rattle.base.proofs.Bools.{and_is}
use Rattle.base.proofs.Lists.{every_append}
use Rattle.base.proofs.Searches.{all_places}
use Rattle.limits.specs.Limits.{IsLeafCount}
use Rattle.refusals.specs.Refusals.{accepted, refuse, judged, answered}
use Rattle.trees.specs.Trees.{Tree, leaf, node, leaves, size, occurrences, IsTree, ordered}
use Rattle.trees.specs.Rerooting.{reroot_along, rerooted}
use Rattle.trees.specs.Listings.{standard}
use Rattle.trees.proofs.Trees.{Distinct, Within, within_left, within_right, leaf_has, size_pos, join_comm}
use Rattle.trees.proofs.Trees.{ordered_apart, ordered_is, tree_on, ordered_drawn, ordered_tree, root_within, tree_size}
use Rattle.trees.proofs.Rerooting.{tree_held}
use Rattle.sheet_rules.specs.Sheets.{same}
use Rattle.newick_rules.specs.Drawings.{Drawing, nesting, names_in}
use Rattle.newick_rules.specs.Reader.{semicolon, draws, read}
use Rattle.newick_rules.specs.Writings.{Right}
use Rattle.newick_rules.specs.Exporting.{plain, drawing, top_parts, drawing_of_tree, exported}
use Rattle.newick_rules.specs.Importing.{ways, binary, binary_top, nodes_refusal, times_in, each_once}
use Rattle.newick_rules.specs.Importing.{strains_refusal, subtree, tree_drawn, deepest, imported}
use Rattle.newick_rules.specs.Operations.{Strains}
use Rattle.newick_rules.proofs.ReaderLaws.{reads}
use Rattle.newick_rules.proofs.Plain.{is_word, plain_right}
use Rattle.newick_rules.proofs.Strains.{known_here, named_here, word_here}
use Rattle.newick_rules.proofs.DrawnTrees.{leaf_times}

-- a tree with leaf 0 put on has each leaf once
pub stands_once :
    (n : ℕ) (T : Tree) → IsTree n T → 0 < n → (k : ℕ) → k < n → occurrences k (node (leaf 0) T) ≡ 1
stands_once n T h z k q = tree_held n T z h k ∙ rw (lt-ltb k n q)

-- a subtree's drawing nests less deep than it has leaves, and is binary
nests_less : (names : List (List ℕ)) (A : Tree) → suc (nesting (drawing names A)) ≤ size A
unfolding drawing nesting size
nests_less names (leaf i) = omega arith
nests_less names (node A B) = omega (arith, nests_less names A, nests_less names B, size_pos A, size_pos B)

is_binary : (names : List (List ℕ)) (A : Tree) → binary (drawing names A) ≡ true
unfolding drawing binary ways
is_binary names (leaf i) = refl
is_binary names (node A B) = rw (is_binary names A, is_binary names B)

-- the drawing of a tree has the names of the tree with leaf 0 put on, nests no deeper than it has leaves, and is binary
whole_names :
    (names : List (List ℕ)) (H : Tree)
    → names_in (drawing_of_tree names H) ≡ names_in (drawing names (node (leaf 0) H))
unfolding drawing top_parts drawing_of_tree names_in
whole_names names (leaf i) = refl
whole_names names (node A B) = simp append_assoc

whole_nests : (names : List (List ℕ)) (H : Tree) → nesting (drawing_of_tree names H) ≤ size H
unfolding drawing top_parts drawing_of_tree nesting size
whole_nests names (leaf i) = omega arith
whole_nests names (node A B) = omega (arith, nests_less names A, nests_less names B, size_pos A, size_pos B)

whole_binary : (names : List (List ℕ)) (H : Tree) → binary_top (drawing_of_tree names H) ≡ true
unfolding drawing top_parts drawing_of_tree binary_top binary ways
whole_binary names (leaf i) = refl
whole_binary names (node A B) = rw (is_binary names A, is_binary names B)

module _ (n : ℕ) (names : List (List ℕ)) (s : Strains n names) where
  -- the names of a subtree's drawing are those of its leaves: what holds of the strains' names holds of them
  names_pass :
      (f : List ℕ → Bool) → ((i : ℕ) → i < n → f (get_or names i []) ≡ true) → (A : Tree) → Within n A
      → all_in f (names_in (drawing names A)) ≡ true
  unfolding drawing names_in all_in
  names_pass f h (leaf i) w = and_is _ _ (h i (w i (leaf_has i))) refl
  names_pass f h (node A B) w =
      every_append f (names_in (drawing names A)) (names_in (drawing names B))
      (names_pass f h A (within_left n A B w)) (names_pass f h B (within_right n A B w))

  -- as a subtree it is the same
  subtree_same : (A : Tree) → Within n A → subtree names (drawing names A) ≡ A
  unfolding drawing subtree
  subtree_same (leaf i) w = rw (named_here n names s i (w i (leaf_has i)))
  subtree_same (node A B) w = rw (subtree_same A (within_left n A B w), subtree_same B (within_right n A B w))

  -- rerooted at leaf 0, what the drawing of a tree draws is the tree itself, up to order
  whole_tree :
      (H : Tree) → Within n (node (leaf 0) H) → Distinct H
      → ordered (tree_drawn names (drawing_of_tree names H)) ≡ ordered H
  unfolding tree_drawn drawing top_parts drawing_of_tree subtree rerooted reroot_along leaves
  whole_tree (leaf i) w d =
      rw (named_here n names s 0 (w 0 refl), named_here n names s i (within_right n (leaf 0) (leaf i) w i (leaf_has i)))
  whole_tree (node A B) w d =
      let v = within_right n (leaf 0) (node A B) w in
      rw (
        named_here n names s 0 (w 0 refl),
        subtree_same A (within_left n A B v),
        subtree_same B (within_right n A B v),
      )
      (unfold ordered in sym (join_comm (ordered A) (ordered B) (ordered_apart A B d.2)))

  -- A tree on the n leaves.
  module _ (H : Tree) (h : IsTree n H) (c : IsLeafCount n) where
    within : Within n (node (leaf 0) H)
    within = root_within n H (tree_on n H h) (omega arith)

    whole_pass :
        (f : List ℕ → Bool) → ((i : ℕ) → i < n → f (get_or names i []) ≡ true)
        → all_in f (names_in (drawing_of_tree names H)) ≡ true
    whole_pass f g = rw (whole_names names H) (names_pass f g (node (leaf 0) H) within)

    -- each leaf stands once in it, and so does its name
    whole_times : (k : ℕ) → k < n → times_in (names_in (drawing_of_tree names H)) (get_or names k []) ≡ 1
    whole_times k q =
        let W = node (leaf 0) H in
        let D = drawing names W in
        let all_Known = names_pass (λ x. any_in (same x) names) (known_here n names s) W within in
        rw (whole_names names H)
        (sym (rw (lt-ltb k n q) at (leaf_times n names s D all_Known k)) ∙ rw (subtree_same W within)
        (stands_once n H h (omega arith) k q))

    whole_once : each_once names (names_in (drawing_of_tree names H)) ≡ true
    unfolding each_once
    whole_once =
        let l = names_in (drawing_of_tree names H) in
        and_is _ _ (whole_pass (λ x. any_in (same x) names) (known_here n names s))
        (all_places (λ x. eqb (times_in l x) 1) [] names
        (λ i q. eq-eqb (times_in l (get_or names i [])) 1 (whole_times i (rw s.many at q))))

    whole_right : Right deepest (plain (drawing_of_tree names H) ++ (semicolon ∷ [])) (drawing_of_tree names H)
    unfolding drawing_of_tree
    whole_right =
        let z = tree_size n H (tree_on n H h) (omega arith) in
        plain_right deepest (top_parts names H) (unfold names_in in whole_pass is_word (word_here n names s))
        (omega (arith, whole_nests names H, z, c))

-- the export of a tree is read as its drawing
pub export_read :
    (n : ℕ) (names : List (List ℕ)) (T : Tree) → IsLeafCount n → Strains n names → IsTree n T
    → read deepest (exported names T) ≡ draws (drawing_of_tree names (ordered T))
unfolding exported
export_read n names T c s h =
    (reads deepest (plain D ++ (semicolon ∷ [])) D).1 (whole_right n names s (ordered T) (ordered_tree n T h) c)
  where
    D : Drawing
    D = drawing_of_tree names (ordered T)

-- import of the export of a tree is its standard listing
pub import_export :
    (n : ℕ) (names : List (List ℕ)) (T : Tree) → IsLeafCount n → Strains n names → IsTree n T
    → imported names (exported names T) ≡ accepted (standard n T)
unfolding imported nodes_refusal strains_refusal refuse judged answered standard
import_export n names T c s h =
    let d = ordered_drawn n T (tree_on n T h) in
    let H = ordered T in
    let g = ordered_tree n T h in
    rw (
      export_read n names T c s h,
      imported,
      whole_binary names H,
      whole_once n names s H g c,
      s.many,
      whole_tree n names s H (within n names s H g c) d.distinct,
      ordered_is H d.in_order,
    )
