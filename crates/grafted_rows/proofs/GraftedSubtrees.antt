-- The rows of a grafted tree, written in post-order: those of the two children, the node's own, and above the subtree
-- that the edge's number names, one more.
use mathlib.Core.Path.{◌≡◌, refl, ap, sym, ◌∙◌}
use mathlib.Core.Logic.{◌≢◌}
use mathlib.Core.Bool.{true}
use mathlib.Core.List.{List, [], ◌++◌}
use Prim.Native.Nat.{ℕ, ◌+◌, ◌-◌, ◌*◌, ◌≤◌, ◌<◌}
use native.Mathlib.Omega.{arith}
use native.Mathlib.Decide.{ℕ_discrete}
use borrow.Author.Tests.{eq-eqb, ne_eqb}
use lib.Dec.{eqb}
use lib.ListN.{length, set, drop}
use Rattle.limits.specs.Limits.{IsLeafCount}
use Rattle.trees.specs.Trees.{Tree, leaf, node, size, IsTree, ordered}
use Rattle.trees.specs.Listings.{KeepsRules, tree_of, number_in, standard}
use Rattle.trees.proofs.Trees.{size_leaf, size_node, size_pos, tree_on, ordered_drawn, ordered_size}
use Rattle.trees.proofs.Rules.{listing_tree}
use Rattle.trees.proofs.Blocks.{number_leaf, number_node}
use Rattle.trees.proofs.Listings.{top_number}
use Rattle.standard_listings.proofs.SubtreeRows.{leaf_written, written_length, node_written, written_front}
use Rattle.grafted_trees.specs.Grafts.{names_edge, put_on, with_leaf, grafted}
use Rattle.grafted_trees.proofs.EdgeNumbers.{edge_once}
use Rattle.grafted_trees.proofs.Grafts.{with_leaf_size, grafted_ordered}
use Rattle.grafted_rows.specs.inner.Grafting.{grafted_below, RowsFit, SubtreeWritten}
use Rattle.grafted_rows.proofs.Blocks.{block_leaf, Split}

-- Written: a leaf, which has no rows, and a node, once its children are.
leaf_done : (n i s : ℕ) (out : List ℕ) → SubtreeWritten n (leaf i) s out out s i
leaf_done n i s out = record { rows = leaf_written (n + 1) i s out; numbered = sym (number_leaf i (n + 1 + s)) }

node_done :
    {n : ℕ} {A B : Tree} {s t r a b : ℕ} {out out₁ out₂ : List ℕ} → SubtreeWritten n A s out out₁ t a
    → SubtreeWritten n B t out₁ out₂ r b
    → SubtreeWritten n (node A B) s out (set (set out₂ (2 * r) a) (2 * r + 1) b) (r + 1) (n + 1 + r)
node_done {n} {A} {B} {s} p q = record {
  rows = rw (p.numbered, q.numbered) (node_written p.rows q.rows);
  numbered =
      omega (arith, number_node A B (n + 1 + s), p.rows.next, q.rows.next, size_pos A, size_pos B);
}

-- `with_leaf` is `grafted_below`, and then the leaf put on above
with_leaf_above :
    (x e : ℕ) (X : Tree) (r : ℕ) → with_leaf x e X r ≡ put_on (eqb e (number_in X r)) x (grafted_below x e X r)
unfolding with_leaf grafted_below number_in
with_leaf_above x e (leaf i) r = refl
with_leaf_above x e (node A B) r = refl

-- The node under v, with the new leaf on an edge below it.
module _ {n : ℕ} (e : ℕ) {rows : List ℕ} {X : Tree} {r v s : ℕ} {out : List ℕ}
    (g : RowsFit n rows X r (grafted_below n e X r) v s out) where
  pub leaf_rows_written : v < n → SubtreeWritten n (grafted_below n e X r) s out out s v
  unfolding grafted_below
  leaf_rows_written h = rw (block_leaf X g.block h) (leaf_done n v s out)

  module _ {a b : ℕ} (c : Split n rows X r v a b) where
    -- the first node of the second child, and what the children become
    abbrev r' : ℕ
    r' = r + size c.left - 1

    abbrev A' : Tree
    A' = with_leaf n e c.left r

    abbrev B' : Tree
    B' = with_leaf n e c.right r'

    becomes : grafted_below n e X r ≡ node A' B'
    unfolding grafted_below
    becomes = rw c.whole

    new_sizes : size (grafted_below n e X r) ≡ size A' + size B'
    new_sizes = rw becomes (size_node A' B')

    pub first_rows_fit : RowsFit n rows c.left r A' a s out
    first_rows_fit =
        record { count = g.count; block = c.first; below = omega (arith, g.below, new_sizes); room = g.room }

    module _ {out₁ : List ℕ} {t x : ℕ} (d : SubtreeWritten n A' s out out₁ t x) where
      pub second_rows_fit : RowsFit n rows c.right r' B' b t out₁
      second_rows_fit = record {
        count = g.count;
        block = c.second;
        below = omega (arith, g.below, new_sizes, d.rows.next);
        room = rw (written_length d.rows) g.room;
      }

      module _ {out₂ : List ℕ} {u y : ℕ} (f : SubtreeWritten n B' t out₁ out₂ u y) where
        pub own_row_fits : IsLeafCount n × (u < n) × (2 * u + 1 < length out₂)
        own_row_fits =
            let ends = f.rows.next in
            let starts = d.rows.next in
            let long = written_length f.rows ∙ written_length d.rows in
            (g.count, omega (arith, g.below, new_sizes), omega (arith, g.below, g.room, new_sizes))

        pub node_rows_written :
            SubtreeWritten n (grafted_below n e X r) s out (set (set out₂ (2 * u) x) (2 * u + 1) y) (u + 1) (n + 1 + u)
        node_rows_written = rw becomes (node_done d f)

-- And on the edge above it.
module _ {n : ℕ} (e : ℕ) {rows : List ℕ} {X : Tree} {r v s : ℕ} {out : List ℕ}
    (g : RowsFit n rows X r (with_leaf n e X r) v s out) where
  not_above : v ≢ e → with_leaf n e X r ≡ grafted_below n e X r
  unfolding put_on
  not_above d =
      with_leaf_above n e X r ∙ rw (← g.block.number, ne_eqb e v (λ q. d (sym q)))

  above : v ≡ e → with_leaf n e X r ≡ node (grafted_below n e X r) (leaf n)
  unfolding put_on
  above h = with_leaf_above n e X r ∙ rw (← g.block.number, eq-eqb e v (sym h))

  no_larger : size (grafted_below n e X r) ≤ size (with_leaf n e X r)
  no_larger = elim (ℕ_discrete v e) [
    | yes h ↦ rw (above h) (omega (arith, size_node (grafted_below n e X r) (leaf n)))
    | no d ↦ rw (not_above d) (omega arith)
  ]

  pub below_fits : RowsFit n rows X r (grafted_below n e X r) v s out
  below_fits = record { count = g.count; block = g.block; below = omega (arith, g.below, no_larger); room = g.room }

  module _ {out₁ : List ℕ} {t x : ℕ} (d : SubtreeWritten n (grafted_below n e X r) s out out₁ t x) where
    pub subtree_written : v ≢ e → SubtreeWritten n (with_leaf n e X r) s out out₁ t x
    subtree_written h = rw (not_above h) d

    pub new_row_fits : v ≡ e → IsLeafCount n × (t < n) × (2 * t + 1 < length out₁)
    new_row_fits h =
        let whole = ap size (above h) ∙ size_node (grafted_below n e X r) (leaf n) in
        let one = size_leaf n in
        let long = written_length d.rows in
        let ends = d.rows.next in
        (g.count, omega (arith, g.below), omega (arith, g.below, g.room))

    pub grafted_written :
        v ≡ e
        → SubtreeWritten n (with_leaf n e X r) s out (set (set out₁ (2 * t) x) (2 * t + 1) n) (t + 1) (n + 1 + t)
    grafted_written h = rw (above h) (node_done d (leaf_done n n t out₁))

-- The whole tree: its block is the standard listing, and what is written from row 0 on is that of the grafted tree.
module _ (n e : ℕ) (l : List ℕ) (count : IsLeafCount n) (keeps : KeepsRules n l) (named : names_edge n e ≡ true) where
  abbrev T : Tree
  T = tree_of n l

  is_tree : IsTree n T
  is_tree = listing_tree n count l keeps

  old_size : size (ordered T) + 1 ≡ n
  old_size = ordered_size n T (omega (arith, count)) is_tree

  new_size : size (with_leaf n e (ordered T) n) ≡ n
  new_size =
      omega (arith, with_leaf_size n e (ordered T) n, edge_once n T count.0 is_tree e named, old_size)

  pub whole_fits :
      {rows : List ℕ} (rest out : List ℕ) → rows ≡ standard n T ++ rest → 2 * (n - 1) ≤ length out
      → RowsFit n rows (ordered T) n (with_leaf n e (ordered T) n) (2 * n - 3) 0 out
  unfolding standard
  whole_fits rest out stand room = record {
    count = count;
    block = record {
      before = [];
      after = rest;
      joins = stand;
      starts = omega arith;
      low = omega arith;
      high = omega (arith, old_size);
      within = λ k h. ((ordered_drawn n T (tree_on n T is_tree)).only k h).1;
      number = sym (top_number n (ordered T) count.0 old_size);
    };
    below = omega (arith, new_size);
    room = room;
  }

  pub whole_written :
      {out out' : List ℕ} {next number : ℕ}
      → SubtreeWritten n (with_leaf n e (ordered T) n) 0 out out' next number → 2 * (n - 1) ≤ length out
      → out' ≡ standard (n + 1) (grafted n T e) ++ drop (2 * (n - 1)) out
  unfolding standard
  whole_written d room =
      rw (grafted_ordered n T count.0 is_tree e)
      (unfold grafted in rw new_size at (written_front d.rows (rw new_size room)))
