-- The total gap as rows add up to it, in the order of the places of their leaves: row j before the diagonal has the
-- gaps of column j above it, since the halves of both tables are equal.
use mathlib.Core.Path.{◌≡◌, refl, ◌∙◌}
use mathlib.Core.List.{List}
use Prim.Native.Nat.{ℕ, ◌+◌, ◌*◌, ◌^◌, ◌<◌}
use native.Mathlib.Omega.{arith}
use lib.ListN.{get_or}
use Rattle.base.specs.Numbers.{sum_below, pair_sum, distance}
use Rattle.base.proofs.Sums.{sum_ext, sum_more}
use Rattle.trees.specs.Trees.{Tree}
use Rattle.trees.specs.Listings.{tree_of}
use Rattle.trees.specs.Quartets.{quartets}
use Rattle.trees.specs.Tables.{cell, IsTable}
use Rattle.trees.specs.Gaps.{gap_size, total_gap}
use Rattle.trees.proofs.Quartets.{quartets_ij}
use Rattle.trees.proofs.Tables.{halves_equal}
use Rattle.leaf_orders.specs.declared.LeafOrder.{LeafOrder}
use Rattle.leaf_orders.specs.inner.LeafOrders.{at}
use Rattle.least_depths.specs.inner.Rows.{count_of}
use Rattle.total_gaps.specs.inner.Sizes.{SizesAdded}

-- no size, and one more
module _ {scale : ℕ} {o : LeafOrder} {p : ℕ} {cells : List ℕ} where
  pub sizes_begun : SizesAdded scale o p cells 0 0
  unfolding sum_below
  sizes_begun = record { sum = refl; small = omega arith }

  pub sizes_more :
      {j r d : ℕ} → SizesAdded scale o p cells j r
      → d ≡ distance (get_or cells (at o.leaves p * o.n + j) 0) (scale * count_of o p j) → d < 2 ^ 32
      → SizesAdded scale o p cells (j + 1) (r + d)
  sizes_more {j = j} a e l = record {
    sum = rw (sum_more j) (omega (arith, a.sum, e));
    small = omega (arith, a.small);
  }

-- the rows of the leaves at the first places, added up: row j before the diagonal has the gaps of column j above it
module _ (n s : ℕ) (t : List ℕ) (T : Tree) where
  abbrev column_gap : ℕ → ℕ
  column_gap j = sum_below j (λ i. gap_size n s t T i j)

  abbrev pub rows_gap : List ℕ → ℕ → ℕ
  rows_gap order p = sum_below p (λ q. column_gap (at order q))

  -- a cell before the diagonal, and its mirror cell
  mirror_size :
      IsTable n t → (j k : ℕ) → j < n → k < n
      → distance (cell n t j k) (s * quartets n T j k) ≡ gap_size n s t T k j
  unfolding gap_size
  mirror_size is j k lj lk = rw (halves_equal is j k lj lk, quartets_ij n T j k)

  pub rows_all :
      (leaves : List ℕ) (p : ℕ) → ((f : ℕ → ℕ) → sum_below n (λ q. f (at leaves q)) ≡ sum_below n f) → p ≡ n
      → rows_gap leaves p ≡ total_gap n s t T
  unfolding total_gap pair_sum
  rows_all leaves p places e = rw e (places column_gap)

-- one row more
module _ (s : ℕ) (t : List ℕ) (o : LeafOrder) where
  abbrev T : Tree
  T = tree_of o.n o.listing.now

  pub rows_more :
      (p : ℕ) {r : ℕ} → IsTable o.n t → p < o.n → SizesAdded s o p t (at o.leaves p) r
      → rows_gap o.n s t T o.leaves p + r ≡ rows_gap o.n s t T o.leaves (p + 1)
  rows_more p {r} is lp a = rw (sum_more p) (omega (arith, a.sum ∙ sum_ext j _ _ same))
    where
      j : ℕ
      j = at o.leaves p

      lj : j < o.n
      lj = o.ordered.leaf_below p lp

      same :
          (k : ℕ) → k < j
          → distance (get_or t (j * o.n + k) 0) (s * count_of o p k) ≡ gap_size o.n s t T k j
      same k m = unfold cell in mirror_size o.n s t T is j k lj (omega arith)
