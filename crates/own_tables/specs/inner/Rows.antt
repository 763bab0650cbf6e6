-- What the function that compares a row of a table with the tree's promises.
use Rattle.std.specs.Prelude.{◌≡◌, List, ℕ, ◌+◌, ◌*◌, eqb}
use Rattle.base.specs.Numbers.{count_below}
use Rattle.leaf_orders.specs.declared.LeafOrder.{LeafOrder}
use Rattle.leaf_orders.specs.inner.LeafOrders.{at}
use Rattle.least_depths.specs.inner.Rows.{count_of}

-- so many of the first j cells of the row of the leaf at place p are the tree's
abbrev pub RightCounted : LeafOrder → (p : ℕ) (cells : List ℕ) (j right : ℕ) → Type 0
RightCounted o p cells j right =
    right ≡ count_below j (λ k. eqb (at cells (at o.leaves p * o.n + k)) (count_of o p k))
