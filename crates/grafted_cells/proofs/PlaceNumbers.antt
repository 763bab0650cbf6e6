-- The numbers of places: a leaf on an edge of the subtree at a place is put on inside that subtree; each number of an
-- edge is that of some place. The rows of the subtree are a block of the tree's post-order, so that the subtree stands
-- under its number there, and the row of this number names its two children.
use mathlib.Core.Path.{◌≡◌, refl, sym, ◌∙◌}
use mathlib.Core.List.{List, [], ◌∷◌, ◌++◌, append_assoc, append-nil}
use Prim.Native.Nat.{ℕ, ◌+◌, ◌-◌, ◌*◌, ◌≤◌, ◌<◌}
use native.Mathlib.Omega.{arith}
use native.Mathlib.Decide.{dec_lt, ℕ_discrete}
use borrow.Author.Tests.{ne_eqb}
use lib.Dec.{eqb}
use lib.ListN.{length, get_or, length-append}
use lib.Seq.{get_or_at, get_or-append-add}
use Rattle.base.proofs.Counts.{no_indicator}
use Rattle.trees.specs.Trees.{Tree, leaf, node, size}
use Rattle.trees.specs.Listings.{with_rows, number_in, post_order}
use Rattle.trees.proofs.Trees.{size_pos, Within}
use Rattle.trees.proofs.Blocks.{with_rows_append, post_order_length, number_leaf, number_node, number_lt, Planted, read}
use Rattle.trees.proofs.SubtreesByRow.{rows_old}
use Rattle.grafted_trees.specs.Grafts.{put_on, with_leaf}
use Rattle.grafted_trees.specs.inner.EdgeNumbers.{edges_at}
use Rattle.grafted_trees.proofs.Grafts.{with_leaf_none}
use Rattle.grafted_cells.proofs.Places.{first, second, beside, Place, top, below, placed, here_in}

-- the number of the first node of what stands at a place; that of the whole tree's is r
unfoldable pub start : Place → ℕ → ℕ
start top r = r
start (below first Y o) r = start o r
start (below second Y o) r = start o (r + size Y - 1)

-- the edges of the subtree are edges of the tree
pub edges_placed : (e : ℕ) (o : Place) (Z : Tree) (r : ℕ) → edges_at e Z (start o r) ≤ edges_at e (placed o Z) r
unfolding start placed beside edges_at
edges_placed e top Z r = omega arith
edges_placed e (below first Y o) Z r = omega (arith, edges_placed e o Z r)
edges_placed e (below second Y o) Z r = omega (arith, edges_placed e o Z (r + size Y - 1))

-- a leaf on one of them, if no other edge has its number, is put on inside the subtree
pub with_leaf_placed :
    (x e : ℕ) (o : Place) (Z : Tree) (r : ℕ) → 1 ≤ edges_at e Z (start o r) → edges_at e (placed o Z) r ≡ 1
    → (with_leaf x e (placed o Z) r ≡ placed o (with_leaf x e Z (start o r))) × (edges_at e Z (start o r) ≡ 1)
unfolding start placed beside edges_at with_leaf put_on
with_leaf_placed x e top Z r h once = (refl, once)
with_leaf_placed x e (below first Y o) Z r h once =
    let X = placed o Z in
    let inside = edges_placed e o Z r in
    let rest = with_leaf_placed x e o Z r h (omega arith) in
    let not_above = no_indicator (eqb e (number_in (node X Y) r)) (omega arith) in
    (rw (not_above, rest.0, with_leaf_none x e Y (r + size X - 1) (omega arith)), rest.1)
with_leaf_placed x e (below second Y o) Z r h once =
    let X = placed o Z in
    let r' = r + size Y - 1 in
    let inside = edges_placed e o Z r' in
    let rest = with_leaf_placed x e o Z r' h (omega arith) in
    let not_above = no_indicator (eqb e (number_in (node Y X) r)) (omega arith) in
    (rw (not_above, rest.0, with_leaf_none x e Y r (omega arith)), rest.1)

-- the place of a number
pub record PlaceOf (X : Tree) (r e : ℕ) : Type 0 where
  pub place : Place
  pub tree : Tree
  pub whole : placed place tree ≡ X
  pub number : number_in tree (start place r) ≡ e

pub place_of : (X : Tree) (r e : ℕ) → 1 ≤ edges_at e X r → PlaceOf X r e
unfolding edges_at start placed beside
place_of (leaf i) r e h = elim (ℕ_discrete e i) [
  | yes is ↦ record { place = top; tree = leaf i; whole = refl; number = number_leaf i r ∙ sym is }
  | no d ↦ absurd (omega (arith, rw (ne_eqb e i d) at h))
]
place_of (node A B) r e h = elim (ℕ_discrete e (number_in (node A B) r)) [
  | yes is ↦ record { place = top; tree = node A B; whole = refl; number = sym is }
  | no d ↦ elim (dec_lt 0 (edges_at e A r)) [
    | yes l ↦
        let w = place_of A r e l in
        record { place = below first B w.place; tree = w.tree; whole = rw w.whole; number = w.number }
    | no g ↦
        let inside : 1 ≤ edges_at e B (r + size A - 1) =
        omega (arith, rw (ne_eqb e (number_in (node A B) r) d) at h) in
        let w = place_of B (r + size A - 1) e inside in
        record { place = below second A w.place; tree = w.tree; whole = rw w.whole; number = w.number }
  ]
]

-- The rows of the subtree stand one after the other among those of the tree.
record RowsAt (o : Place) (Z : Tree) (r : ℕ) : Type 0 where
  before : List ℕ
  after : List ℕ
  joins : post_order (placed o Z) r ≡ before ++ (post_order Z (start o r) ++ after)
  starts : length before + 2 * r ≡ 2 * start o r

rows_at : (o : Place) (Z : Tree) (r : ℕ) → RowsAt o Z r
unfolding start placed beside post_order
rows_at top Z r =
    record { before = []; after = []; joins = sym (append-nil (post_order Z r)); starts = omega arith }
rows_at (below first Y o) Z r =
    let w = rows_at o Z r in
    let X = placed o Z in
    let r' = r + size X - 1 in
    record {
      before = w.before;
      after = w.after ++ (post_order Y r' ++ (number_in X r ∷ number_in Y r' ∷ []));
      joins = rw w.joins (simp append_assoc);
      starts = w.starts;
    }
rows_at (below second Y o) Z r =
    let r' = r + size Y - 1 in
    let w = rows_at o Z r' in
    record {
      before = post_order Y r ++ w.before;
      after = w.after ++ (number_in Y r ∷ number_in (placed o Z) r' ∷ []);
      joins = rw w.joins (simp append_assoc);
      starts = rw length-append (omega (arith, w.starts, post_order_length Y r, size_pos Y));
    }

-- The post-order of a tree on leaves below r.
module _ (o : Place) (Z : Tree) (r : ℕ) where
  abbrev s : ℕ
  s = start o r

  abbrev listing : List ℕ
  listing = post_order (placed o Z) r

  -- the number of the subtree has the subtree under it
  pub subtree_placed : Within r (placed o Z) → with_rows leaf r listing (number_in Z s) ≡ Z
  subtree_placed within =
      rw (
        w.joins,
        with_rows_append leaf r (s - r) w.before (post_order Z s ++ w.after) (omega (arith, w.starts)),
        there,
        with_rows_append earlier s (size Z - 1) (post_order Z s) w.after (post_order_length Z s),
        rows_old (with_rows earlier s (post_order Z s)) (s + (size Z - 1)) w.after (number_in Z s) last,
      )
      (read Z earlier s planted).0
    where
      w : RowsAt o Z r
      w = rows_at o Z r

      there : r + (s - r) ≡ s
      there = omega (arith, w.starts)

      -- what stands under each number after the rows before
      earlier : ℕ → Tree
      earlier = with_rows leaf r w.before

      planted : Planted earlier s Z
      planted x q =
          let low = within x (here_in o Z x q) in
          (omega (arith, w.starts), rows_old leaf r w.before x low)

      last : number_in Z s < s + (size Z - 1)
      last = omega (arith, number_lt Z s earlier planted, size_pos Z)

-- The row of a node names its two children.
module _ (o : Place) (A B : Tree) (r k : ℕ) (row : r + k ≡ number_in (node A B) (start o r)) where
  abbrev r₁ : ℕ
  r₁ = start o r

  abbrev r₂ : ℕ
  r₂ = start o r + size A - 1

  w : RowsAt o (node A B) r
  w = rows_at o (node A B) r

  -- the rows before, and those from its own on
  abbrev earlier : List ℕ
  earlier = (w.before ++ post_order A r₁) ++ post_order B r₂

  abbrev own : List ℕ
  own = number_in A r₁ ∷ number_in B r₂ ∷ w.after

  parts : post_order (placed o (node A B)) r ≡ earlier ++ own
  unfolding post_order
  parts = w.joins ∙ simp append_assoc

  earlier_length : length earlier ≡ 2 * k
  earlier_length =
      rw (length-append, length-append)
      (omega (
        arith,
        w.starts,
        post_order_length A r₁,
        post_order_length B r₂,
        number_node A B r₁,
        size_pos A,
        size_pos B,
      ))

  pub first_child : get_or (post_order (placed o (node A B)) r) (2 * k) 0 ≡ number_in A r₁
  first_child = rw parts (get_or_at earlier _ _ 0 (2 * k) earlier_length)

  pub second_child : get_or (post_order (placed o (node A B)) r) (2 * k + 1) 0 ≡ number_in B r₂
  second_child = rw (parts, ← earlier_length) (get_or-append-add earlier own 1 0)
