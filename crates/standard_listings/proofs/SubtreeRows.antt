-- Writing a subtree's rows from row s on: the rows of the first child, those of the second, and the node's own row make
-- up its post-order; the recursion that does so writes the standard listing.
use mathlib.Core.Path.{◌≡◌, refl, ap, ◌∙◌}
use mathlib.Core.List.{List, [], ◌∷◌, ◌++◌}
use mathlib.Core.Option.{none}
use Prim.Native.Nat.{ℕ, ◌+◌, ◌-◌, ◌*◌, ◌≤◌, ◌<◌}
use native.Mathlib.Nat.{add-zero, zero-add}
use native.Mathlib.Numerals.{add-one}
use native.Mathlib.Omega.{arith}
use native.Mathlib.Decide.{dec_lt}
use borrow.Author.Tests.{lt-ltb, le-ltb}
use lib.ListN.{length, get_or, set, drop}
use lib.Seq.{sets, length-sets, sets-eq}
use Rattle.base.proofs.Lists.{sets_append}
use Rattle.limits.specs.Limits.{IsLeafCount}
use Rattle.trees.specs.Trees.{Tree, leaf, node, size}
use Rattle.trees.specs.Listings.{KeepsRules, tree_of, number_in, post_order, standard}
use Rattle.trees.proofs.Trees.{size_node, size_pos, ordered_size}
use Rattle.trees.proofs.Rules.{listing_tree}
use Rattle.trees.proofs.Blocks.{post_order_length, number_node}
use Rattle.trees.proofs.Listings.{tree_listing}
use Rattle.listings.specs.Operations.{listing_refusal}
use Rattle.listings.proofs.ListingRefusal.{accepted_listing}
use Rattle.standard_listings.specs.inner.Standardising.{part, standard_first, standard_second, InOrder, AtNode}
use Rattle.standard_listings.specs.inner.Standardising.{child_number, with_row, RowFits, SubtreeRowsFit}
use Rattle.standard_listings.specs.inner.Standardising.{RowsWritten, SubtreeRowsWritten}
use Rattle.standard_listings.proofs.Nodes.{part_leaf, part_node, first_below, second_below}

-- Rows written: a leaf has none; a node has those of A, which end before row t, those of B, which end before row r, and
-- its own.
pub leaf_written : (n i s : ℕ) (out : List ℕ) → RowsWritten n (leaf i) s out out s
leaf_written n i s out = record { next = unfold size in refl; rows = unfold post_order in refl }

module _ {n : ℕ} {A : Tree} {s t : ℕ} {out out₁ : List ℕ} (a : RowsWritten n A s out out₁ t) where
  pub written_length : length out₁ ≡ length out
  written_length = rw a.rows (length-sets out (2 * s) (post_order A (n + s)))

  pub node_written :
      {B : Tree} {r : ℕ} {out₂ : List ℕ} → RowsWritten n B t out₁ out₂ r
      → RowsWritten n (node A B) s out (set (set out₂ (2 * r) (number_in A (n + s))) (2 * r + 1) (number_in B (n + t)))
      (r + 1)
  unfolding post_order
  node_written {B} {r} b = record {
    next = omega (arith, a.next, b.next, size_node A B);
    rows =
        rw (
          b.rows,
          a.rows,
          second,
          sets_append rows_a (rows_b ++ own) out (2 * s),
          after_a,
          sets_append rows_b own (sets out (2 * s) rows_a) (2 * t),
          after_b,
          add-one (2 * r),
        );
  }
    where
      rows_a : List ℕ
      rows_a = post_order A (n + s)

      rows_b : List ℕ
      rows_b = post_order B (n + t)

      own : List ℕ
      own = number_in A (n + s) ∷ number_in B (n + t) ∷ []

      second : n + s + size A - 1 ≡ n + t
      second = omega (arith, a.next)

      after_a : 2 * s + length rows_a ≡ 2 * t
      after_a = omega (arith, post_order_length A (n + s), size_pos A, a.next)

      after_b : 2 * t + length rows_b ≡ 2 * r
      after_b = omega (arith, post_order_length B (n + t), size_pos B, b.next)

-- rows written from row 0 on stand at the front, and what stood behind them is left
pub written_front :
    {n r : ℕ} {Y : Tree} {out out' : List ℕ} → RowsWritten n Y 0 out out' r → 2 * (size Y - 1) ≤ length out
    → out' ≡ post_order Y n ++ drop (2 * (size Y - 1)) out
written_front {n} {Y = Y} {out} w room =
    let rows = post_order Y n in
    let many = post_order_length Y n in
    let end = zero-add (2 * (size Y - 1)) in
    w.rows ∙ rw (add-zero n) (sets-eq rows out 0 (omega (arith, many)) ∙ rw (many, end))

-- the children of a node, as the code has them
pub record Split (n : ℕ) (l : List ℕ) (v a b : ℕ) : Type 0 where
  pub joins : part n l v ≡ node (part n l a) (part n l b)
  pub first_low : a < v
  pub second_low : b < v

pub split_node :
    {n : ℕ} {l : List ℕ} {v : ℕ} (w : AtNode n l v) {a b : ℕ} → a ≡ standard_first n l v
    → b ≡ standard_second n l v → Split n l v a b
split_node w ea eb =
    record { joins = rw (ea, eb) (part_node w); first_low = rw ea (first_below w); second_low = rw eb (second_below w) }

module _ {n : ℕ} {l sorted : List ℕ} {v s : ℕ} {out : List ℕ} (g : SubtreeRowsFit n l sorted v s out) where
  -- a number from n on is a node's
  pub node_at : (x : ℕ) → n ≤ x → x < 2 * n - 2 → AtNode n l x
  node_at x low high = record { count = g.count; keeps = g.keeps; low = low; high = high }

  -- its children, as they stand in order
  pub split_at :
      n ≤ v → {a b : ℕ} → a ≡ get_or sorted (2 * (v - n)) 0 → b ≡ get_or sorted (2 * (v - n) + 1) 0 → Split n l v a b
  split_at low ea eb =
      split_node (node_at v low g.inside) (ea ∙ g.order.firsts v low g.inside)
      (eb ∙ g.order.seconds v low g.inside)

  pub leaf_rows_written : v < n → SubtreeRowsWritten n l v s out out s
  leaf_rows_written h = rw (part_leaf n l v h) (leaf_written n v s out)

  -- a row names its child x by the number that x has in post-order
  named :
      (x u t : ℕ) → x < 2 * n - 2 → t + 1 ≡ u + size (part n l x) → child_number n x t ≡ number_in (part n l x) (n + u)
  unfolding child_number
  named x u t lx e = elim (dec_lt x n) [
    | yes h ↦ rw (lt-ltb x n h, part_leaf n l x h) (unfold number_in in refl)
    | no h ↦
        let w = node_at x (omega arith) lx in
        let A = part n l (standard_first n l x) in
        let B = part n l (standard_second n l x) in
        rw (le-ltb x n (omega arith), part_node w, number_node A B (n + u))
        (omega (arith, ap size (part_node w), size_node A B, size_pos A, size_pos B))
  ]

  -- the rows of a child x may be written too, from row u on
  child_rows_fit :
      (x u : ℕ) (o : List ℕ) → x < v → u + size (part n l x) < n → length o ≡ length out
      → SubtreeRowsFit n l sorted x u o
  child_rows_fit x u o low below long = record {
    count = g.count;
    keeps = g.keeps;
    order = g.order;
    inside = omega (arith, g.inside);
    below = below;
    room = omega (arith, g.room);
  }

  module _ {a b : ℕ} (c : Split n l v a b) where
    sizes : size (part n l v) ≡ size (part n l a) + size (part n l b)
    sizes = ap size c.joins ∙ size_node _ _

    pub first_rows_fit : SubtreeRowsFit n l sorted a s out
    first_rows_fit = child_rows_fit a s out c.first_low (omega (arith, sizes, g.below)) refl

    module _ {out₁ : List ℕ} {t : ℕ} (d : SubtreeRowsWritten n l a s out out₁ t) where
      pub second_rows_fit : SubtreeRowsFit n l sorted b t out₁
      second_rows_fit =
          child_rows_fit b t out₁ c.second_low (omega (arith, sizes, g.below, d.next)) (written_length d)

      module _ {out₂ : List ℕ} {r : ℕ} (e : SubtreeRowsWritten n l b t out₁ out₂ r) where
        long_still : length out₂ ≡ length out
        long_still = written_length e ∙ written_length d

        pub row_fits : RowFits n t r out₂
        row_fits = record {
          count = g.count;
          first_ends = omega (arith, d.next, sizes, g.below, size_pos (part n l b));
          second_ends = omega (arith, e.next, d.next, sizes, g.below);
          room = omega (arith, e.next, d.next, sizes, g.below, g.room, long_still);
        }

        pub node_rows_written : SubtreeRowsWritten n l v s out (with_row n a t b r out₂) (r + 1)
        node_rows_written =
            rw (
              c.joins,
              named a s t (omega (arith, c.first_low, g.inside)) d.next,
              named b t r (omega (arith, c.second_low, g.inside)) e.next,
            )
            (node_written d e)

-- The whole listing: from row 0 on, under the last node.
module _ (n : ℕ) (l : List ℕ) (count : IsLeafCount n) (keeps : KeepsRules n l) where
  whole_size : size (part n l (2 * n - 3)) + 1 ≡ n
  whole_size = unfold tree_of in ordered_size n (tree_of n l) (omega (arith, count)) (listing_tree n count l keeps)

  pub whole_rows_fit :
      (sorted out : List ℕ) → InOrder n l (2 * n - 2) sorted → 2 * (n - 2) ≤ length out
      → SubtreeRowsFit n l sorted (2 * n - 3) 0 out
  whole_rows_fit sorted out order room = record {
    count = count;
    keeps = keeps;
    order = order;
    inside = omega (arith, count);
    below = omega (arith, whole_size);
    room = room;
  }

  -- it has as many numbers as any listing of n leaves
  pub standard_length : length (standard n (tree_of n l)) ≡ 2 * (n - 2)
  standard_length = (tree_listing n count (tree_of n l) (listing_tree n count l keeps)).0.numbers

  pub whole_rows_written :
      (out out' : List ℕ) (r : ℕ) → 2 * (n - 2) ≤ length out → SubtreeRowsWritten n l (2 * n - 3) 0 out out' r
      → out' ≡ standard n (tree_of n l) ++ drop (2 * (n - 2)) out
  unfolding standard tree_of
  whole_rows_written out out' r room w =
      let rows : size (part n l (2 * n - 3)) - 1 ≡ n - 2 = omega (arith, whole_size) in
      rw rows at (written_front w (rw rows room))

-- the buffer that standardising leaves, where nothing is refused: the listing, and what stood behind it
pub standard_end :
    (n : ℕ) (l out : List ℕ) {out' : List ℕ} (due room : ℕ) → listing_refusal n l due room ≡ none
    → out' ≡ standard n (tree_of n l) ++ drop (2 * (n - 2)) out
    → out' ≡ standard n (tree_of n l) ++ drop (length (standard n (tree_of n l))) out
standard_end n l out due room h e =
    let a = accepted_listing n l due room h in
    e ∙ rw (standard_length n l a.count a.keeps)
