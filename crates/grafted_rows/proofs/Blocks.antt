-- The block of a subtree in a listing: where its rows stand one after the other, its number is that of its last node,
-- and its children are those that the row of this node names.
use mathlib.Core.Path.{◌≡◌, refl, ◌∙◌}
use mathlib.Core.List.{List, ◌∷◌, ◌++◌, append_assoc}
use Prim.Native.Nat.{ℕ, ◌+◌, ◌-◌, ◌*◌, ◌≤◌, ◌<◌}
use native.Mathlib.Omega.{arith}
use lib.ListN.{length, get_or, length-append}
use lib.Seq.{get_or_at, get_or-append-add}
use Rattle.trees.specs.Trees.{Tree, leaf, node, size}
use Rattle.trees.specs.Listings.{number_in, post_order}
use Rattle.trees.proofs.Trees.{leaf_has, size_node, size_pos, within_left, within_right}
use Rattle.trees.proofs.Blocks.{post_order_length, number_leaf, number_node, r', number_lt}
use Rattle.grafted_rows.specs.inner.Grafting.{Block}

-- a number below n is a leaf's
pub block_leaf : {n : ℕ} {rows : List ℕ} (X : Tree) {r v : ℕ} → Block n rows X r v → v < n → X ≡ leaf v
block_leaf (leaf i) {r} w h = rw (w.number ∙ number_leaf i r)
block_leaf (node A B) {r} w h = absurd (omega (arith, w.number, number_node A B r, w.low, size_pos A, size_pos B))

-- no number exceeds the last node's
pub block_below : {n : ℕ} {rows : List ℕ} (X : Tree) {r v : ℕ} → Block n rows X r v → 2 ≤ n → v ≤ 2 * n - 3
block_below (leaf i) {r} w big = omega (arith, w.number, number_leaf i r, w.within i (leaf_has i))
block_below (node A B) {r} w big = omega (arith, w.number, number_node A B r, w.high, size_node A B)

-- any other is a node's, whose children are those that its row names
pub record Split (n : ℕ) (rows : List ℕ) (X : Tree) (r v a b : ℕ) : Type 0 where
  pub left : Tree
  pub right : Tree
  pub whole : X ≡ node left right
  pub first : Block n rows left r a
  pub second : Block n rows right (r + size left - 1) b
  pub first_low : a < v
  pub second_low : b < v

-- The parts of a node's block: the rows of A, those of B, and its own, which names A and B.
module _ {n : ℕ} {rows : List ℕ} {r v : ℕ} (A B : Tree) (w : Block n rows (node A B) r v) where
  abbrev rows_a : List ℕ
  rows_a = post_order A r

  abbrev rows_b : List ℕ
  rows_b = post_order B (r' A B r)

  -- its own row and what stands after it
  abbrev own : List ℕ
  own = number_in A r ∷ number_in B (r' A B r) ∷ w.after

  -- what stands before its own row
  abbrev earlier : List ℕ
  earlier = (w.before ++ rows_a) ++ rows_b

  parts : rows ≡ w.before ++ (rows_a ++ (rows_b ++ own))
  unfolding post_order
  parts = w.joins ∙ simp append_assoc

  at : v ≡ r + (size A + size B) - 2
  at = w.number ∙ number_node A B r

  earlier_length : length earlier ≡ 2 * (v - n)
  earlier_length =
      rw (length-append, length-append)
      (omega (
        arith,
        w.starts,
        w.low,
        post_order_length A r,
        post_order_length B (r' A B r),
        at,
        size_pos A,
        size_pos B,
      ))

  own_parts : rows ≡ earlier ++ own
  own_parts = parts ∙ simp append_assoc

  first_number : get_or rows (2 * (v - n)) 0 ≡ number_in A r
  first_number = rw own_parts (get_or_at earlier _ _ 0 (2 * (v - n)) earlier_length)

  second_number : get_or rows (2 * (v - n) + 1) 0 ≡ number_in B (r' A B r)
  second_number = rw (own_parts, ← earlier_length) (get_or-append-add earlier own 1 0)

  split_node : Split n rows (node A B) r v (get_or rows (2 * (v - n)) 0) (get_or rows (2 * (v - n) + 1) 0)
  split_node =
      let in_a = within_left n A B w.within in
      let in_b = within_right n A B w.within in
      let a_low = number_lt A r leaf (λ x q. (omega (arith, in_a x q, w.low), refl)) in
      let b_low = number_lt B (r' A B r) leaf (λ x q. (omega (arith, in_b x q, w.low, size_pos A), refl)) in
      record {
        left = A;
        right = B;
        whole = refl;
        first = record {
          before = w.before;
          after = rows_b ++ own;
          joins = parts;
          starts = w.starts;
          low = w.low;
          high = omega (arith, w.high, size_node A B);
          within = in_a;
          number = first_number;
        };
        second = record {
          before = w.before ++ rows_a;
          after = own;
          joins = parts ∙ simp append_assoc;
          starts = rw length-append (omega (arith, w.starts, post_order_length A r, w.low, size_pos A));
          low = omega (arith, w.low, size_pos A);
          high = omega (arith, w.high, size_node A B, size_pos A);
          within = in_b;
          number = second_number;
        };
        first_low = rw first_number (omega (arith, at, size_pos B));
        second_low = rw second_number (omega (arith, at, size_pos A));
      }

pub block_split :
    {n : ℕ} {rows : List ℕ} (X : Tree) {r v a b : ℕ} → Block n rows X r v → n ≤ v → a ≡ get_or rows (2 * (v - n)) 0
    → b ≡ get_or rows (2 * (v - n) + 1) 0 → Split n rows X r v a b
block_split (leaf i) {r} w low ea eb =
    absurd (omega (arith, w.number, number_leaf i r, w.within i (leaf_has i)))
block_split (node A B) w low ea eb = rw (ea, eb) (split_node A B w)
