-- The sizes of the gaps in a row, added up as code does it. No public contract cites it.
use Rattle.std.specs.Prelude.{◌≡◌, List, ℕ, ◌+◌, ◌-◌, ◌*◌, ◌^◌, ◌≤◌, get_or}
use Rattle.base.specs.Numbers.{sum_below, distance}
use Rattle.leaf_orders.specs.declared.LeafOrder.{LeafOrder}
use Rattle.leaf_orders.specs.inner.LeafOrders.{at}
use Rattle.least_depths.specs.inner.Rows.{count_of}

-- r is the sum of the sizes in the row of the leaf at place p before column j: how far each cell is from the tree's
-- count at the table's scale
pub record SizesAdded (scale : ℕ) (o : LeafOrder) (p : ℕ) (cells : List ℕ) (j r : ℕ) : Type 0 where
  pub sum : r ≡ sum_below j (λ k. distance (get_or cells (at o.leaves p * o.n + k) 0) (scale * count_of o p k))
  pub small : r ≤ j * (2 ^ 32 - 1)
