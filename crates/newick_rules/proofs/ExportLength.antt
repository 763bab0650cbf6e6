-- How long an export is: the bytes of all names, and 3n − 4 more. The text of a subtree has its leaves' names, and two
-- brackets and a comma for each inner node.
use mathlib.Core.Path.{◌≡◌, refl, sym, ◌∙◌}
use mathlib.Core.List.{List, [], ◌∷◌}
use Prim.Native.Nat.{ℕ, ◌+◌, ◌*◌, ◌≤◌}
use native.Mathlib.Nat.{zero-mul, one-mul, add-mul}
use native.Mathlib.Omega.{arith}
use borrow.Author.Tests.{eq-eqb, ne_eqb}
use lib.ListN.{length, get_or, length-append}
use Rattle.base.specs.Numbers.{sum_below}
use Rattle.base.proofs.Sums.{sum_ext, sum_add, sum_only}
use Rattle.trees.specs.Trees.{Tree, leaf, node, size, occurrences, IsTree, ordered}
use Rattle.trees.proofs.Trees.{leaf_has, Within, within_left, within_right, tree_on, ordered_tree, root_within}
use Rattle.trees.proofs.Trees.{tree_size}
use Rattle.newick_rules.specs.Reader.{semicolon}
use Rattle.newick_rules.specs.Exporting.{plain, drawing, top_parts, drawing_of_tree, exported}
use Rattle.newick_rules.proofs.Exports.{stands_once}

-- The names, and the bytes of one.
module _ (names : List (List ℕ)) where
  abbrev name_length : ℕ → ℕ
  name_length i = length (get_or names i [])

  -- the bytes of the names of a subtree's leaves
  letters : Tree → ℕ
  letters (leaf i) = name_length i
  letters (node A B) = letters A + letters B

  plain_length : (A : Tree) → length (plain (drawing names A)) + 3 ≡ letters A + 3 * size A
  unfolding drawing plain letters size
  plain_length (leaf i) = refl
  plain_length (node A B) = rw (length-append, length-append) (omega (arith, plain_length A, plain_length B))

  -- the text of a whole tree, with leaf 0 put on
  top_length :
      (H : Tree) → 2 ≤ size H
      → length (plain (drawing_of_tree names H)) + 2 ≡ letters (node (leaf 0) H) + 3 * size H
  unfolding drawing_of_tree top_parts plain letters size
  top_length (leaf i) l = absurd (omega arith)
  top_length (node A B) l =
      rw (length-append, length-append, length-append) (omega (arith, plain_length A, plain_length B))

  -- as a sum over the leaves, each as often as it stands in the subtree
  letters_sum : (n : ℕ) (X : Tree) → Within n X → letters X ≡ sum_below n (λ i. occurrences i X * name_length i)
  unfolding letters occurrences
  letters_sum n (leaf x) w = sym (
      sum_only n x (λ i. occurrences i (leaf x) * name_length i) (w x (leaf_has x)) (λ k d.
      rw (ne_eqb k x d) (zero-mul (name_length k)))
      ∙ rw (eq-eqb x x refl) (one-mul (name_length x)))
  letters_sum n (node A B) w =
      rw (letters_sum n A (within_left n A B w), letters_sum n B (within_right n A B w))
      (sym (sum_ext n _ _ (λ i l. add-mul (occurrences i A) (occurrences i B) (name_length i))
      ∙ sum_add n (λ i. occurrences i A * name_length i) (λ i. occurrences i B * name_length i)))

pub export_length :
    (n : ℕ) (names : List (List ℕ)) (T : Tree) → 3 ≤ n → IsTree n T
    → length (exported names T) + 4 ≡ sum_below n (λ i. length (get_or names i [])) + 3 * n
unfolding exported
export_length n names T c h =
    rw (length-append (plain (drawing_of_tree names H)) (semicolon ∷ []))
    (omega (arith, sized, top_length names H (omega (arith, sized)), letters_sum names n W within, once))
  where
    H : Tree
    H = ordered T

    W : Tree
    W = node (leaf 0) H

    g : IsTree n H
    g = ordered_tree n T h

    sized : size H + 1 ≡ n
    sized = tree_size n H (tree_on n H g) (omega arith)

    within : Within n W
    within = root_within n H (tree_on n H g) (omega arith)

    once : sum_below n (λ i. occurrences i W * name_length names i) ≡ sum_below n (name_length names)
    once = sum_ext n _ _ (λ i l. rw (stands_once n H g (omega arith) i l) (one-mul (name_length names i)))
