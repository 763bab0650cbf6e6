-- What the function that writes a row of a tree's table promises.
use Rattle.std.specs.Prelude.{◌≡◌, ◌≢◌, List, ℕ, ◌/◌, ◌%◌, ◌<◌, length}
use Rattle.leaf_orders.specs.declared.LeafOrder.{LeafOrder}
use Rattle.leaf_orders.specs.inner.LeafOrders.{at}
use Rattle.least_depths.specs.inner.Rows.{count_of}

-- the first j cells of the row of the leaf at place p are written; the other rows are as they were
pub record RowPut (o : LeafOrder) (p : ℕ) (before after : List ℕ) (j : ℕ) : Type 0 where
  pub same_length : length after ≡ length before
  pub put : (k : ℕ) → k / o.n ≡ at o.leaves p → k % o.n < j → at after k ≡ count_of o p (k % o.n)
  pub kept : (k : ℕ) → k / o.n ≢ at o.leaves p → at after k ≡ at before k
