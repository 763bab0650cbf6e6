-- What stands under a node's number in a listing: a node over what stands under the two children of its row; how many
-- leaves that are, and what branches off above the two.
use mathlib.Core.Path.{◌≡◌, refl, ap}
use mathlib.Core.List.{List}
use Prim.Native.Nat.{ℕ, ◌+◌, ◌-◌, ◌*◌, ◌≤◌, ◌<◌}
use native.Mathlib.Omega.{arith}
use lib.ListN.{get_or}
use Rattle.base.proofs.Counts.{count_le}
use Rattle.limits.specs.Limits.{most_leaves, IsLeafCount}
use Rattle.pair_counts.specs.Pairs.{P}
use Rattle.pair_counts.proofs.Pairs.{P_le, P_mono, P_most}
use Rattle.trees.specs.Trees.{Tree, node, leaves, size}
use Rattle.trees.specs.Listings.{KeepsRules, subtree_at}
use Rattle.trees.proofs.Trees.{size_node, size_count}
use Rattle.trees.proofs.SubtreesByRow.{distinct_below}
use Rattle.listings.specs.declared.Row as listings
use Rattle.listings.specs.Rows.{row_at}
use Rattle.listings.proofs.Rows.{RowOf, row_read}
use Rattle.listings.proofs.Entries.{Seen, node_made}
use Rattle.listings.specs.inner.Children.{row_first, row_second}
use Rattle.leaf_orders.specs.declared.Place.{Place}
use Rattle.leaf_orders.specs.inner.LeafOrders.{most_sum, whole}
use Rattle.leaf_orders.specs.inner.Orders.{depth, Prepared, Fits, ChildrenTold}

pub record Row (n : ℕ) (l : List ℕ) (c : ℕ) : Type 0 where
  pub first : row_first n l c < c
  pub second : row_second n l c < c
  pub is : subtree_at n l c ≡ node (subtree_at n l (row_first n l c)) (subtree_at n l (row_second n l c))

pub row_subtree_at :
    (n : ℕ) (l : List ℕ) (c : ℕ) → IsLeafCount n → KeepsRules n l → n ≤ c → c < 2 * n - 2 → Row n l c
row_subtree_at n l c count keeps low high =
    let r = row_read n l count keeps (c - n) (omega arith) {r = row_at l (c - n)} refl in
    let here : n + (c - n) ≡ c = omega arith in
    record {
      first = rw (← r.first_is) (omega (arith, r.first_before));
      second = rw (← r.second_is) (omega (arith, r.second_before));
      is = rw (here, r.first_is, r.second_is) at r.joins;
    }

-- no subtree has more than n leaves
pub size_le :
    (n : ℕ) (l : List ℕ) (c : ℕ) → IsLeafCount n → KeepsRules n l → c < 2 * n - 2 → size (subtree_at n l c) ≤ n
size_le n l c count keeps high =
    let d = distinct_below n l c count keeps high in
    omega (arith, size_count n (subtree_at n l c) d.0 d.1, count_le n (leaves (subtree_at n l c)))

-- the sizes that are known at the children of row k add up to that of its node
pub sizes_add :
    {n : ℕ} {l : List ℕ} {k : ℕ} {r : listings.Row} → RowOf n l k r → (sizes : List ℕ) → Seen size 0 n l sizes (n + k)
    → get_or sizes r.first 0 + get_or sizes r.second 0 ≡ size (subtree_at n l (n + k))
sizes_add {n} {l} w sizes seen = node_made size 0 n l w sizes _ seen (λ x y. rw (size_node, x, y))

-- no number of pairs is too large
pub pairs_small : (k : ℕ) → k ≤ most_leaves → P k ≤ most_sum
pairs_small k l = omega (arith, P_mono k most_leaves l, P_most)

-- A number c of a node, which stands at p.
module _ (n : ℕ) (l sizes : List ℕ) (c : ℕ) (p : Place) (g : Prepared n l sizes) (low : n ≤ c) (high : c < 2 * n - 2)
    (fits : Fits n l c p) where
  abbrev A : Tree
  A = subtree_at n l (row_first n l c)

  abbrev B : Tree
  B = subtree_at n l (row_second n l c)

  -- what is known of the sizes x and y that are read at the children of its row
  pub record SizesRead (r : listings.Row) (x y : ℕ) : Type 0 where
    pub row : RowOf n l (c - n) r
    pub first_size : x ≡ size A
    pub second_size : y ≡ size B
    pub within : x + y ≤ n
    pub branches : p.above + (P x + P y) ≤ P n
    pub room : p.place + (x + y) ≤ n
    pub rest : P (n - (x + y)) ≤ P n

  pub sizes_read :
      (r : listings.Row) → r ≡ row_at l (c - n) → SizesRead r (get_or sizes r.first 0) (get_or sizes r.second 0)
  sizes_read r e = record {
    row = row;
    first_size = x_is;
    second_size = y_is;
    within = omega (arith, total, x_is, y_is, size_le n l c g.leaf_count g.listing high);
    branches = rw (x_is, y_is) (omega (arith, ap P total, fits.1, P_le (size A) (size B)));
    room = omega (arith, total, x_is, y_is, fits.0);
    rest = P_mono (n - (get_or sizes r.first 0 + get_or sizes r.second 0)) n (omega arith);
  }
    where
      row : RowOf n l (c - n) r
      row = row_read n l g.leaf_count g.listing (c - n) (omega arith) e

      x_is : get_or sizes r.first 0 ≡ size A
      x_is = rw (← row.first_is) (g.sized r.first (omega (arith, row.first_before)))

      y_is : get_or sizes r.second 0 ≡ size B
      y_is = rw (← row.second_is) (g.sized r.second (omega (arith, row.second_before)))

      total : size (subtree_at n l c) ≡ size A + size B
      total =
          let here : n + (c - n) ≡ c = omega arith in
          rw (rw (here, row.first_is, row.second_is) at row.joins, size_node)

  pub told :
      {r : listings.Row} {x y u v w : ℕ} → SizesRead r x y → u ≡ p.above + P y → v ≡ p.above + P x
      → w ≡ P (n - (x + y)) + (whole - (u + v))
      → ChildrenTold n l c p r.first (record { place = p.place; above = u; before = p.before }) r.second
      (record { place = p.place + x; above = v; before = w })
  told s eu ev ew = record {
    first_is = s.row.first_is;
    second_is = s.row.second_is;
    left_is = rw (eu, s.second_size) refl;
    right_is = unfold depth in rw (ew, eu, ev, s.first_size, s.second_size) refl;
  }
