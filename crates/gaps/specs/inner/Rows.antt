-- A row of the gap: what the function that writes it promises. No public contract cites it.
use Rattle.std.specs.Prelude.{List, ℕ, ◌+◌, ◌*◌, ℤ, pos, ◌-ℤ◌, get_or}
use Rattle.leaf_orders.specs.declared.LeafOrder.{LeafOrder}
use Rattle.leaf_orders.specs.inner.LeafOrders.{at}
use Rattle.least_depths.specs.inner.Rows.{count_of, RowWritten}

-- the gap in column j of the row of the leaf at place p: the cell less the tree's count at the table's scale
abbrev pub gap_of : (scale : ℕ) (o : LeafOrder) (p : ℕ) (cells : List ℕ) → ℕ → ℤ
gap_of scale o p cells j = pos (get_or cells (at o.leaves p * o.n + j) 0) -ℤ pos (scale * count_of o p j)

-- that row is written
abbrev pub GapRowWritten : (scale : ℕ) (o : LeafOrder) (p : ℕ) (cells : List ℕ) (out out' : List ℤ) → Type 0
GapRowWritten scale o p cells out out' =
    RowWritten o.n (at o.leaves p) (gap_of scale o p cells) out out' o.n
