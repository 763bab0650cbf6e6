-- The rows of a tree's table as the crates above go through them: what the functions that write a row or compare it
-- promise, and those that go through the rows in the order of the places.
use Rattle.std.specs.Prelude.{◌≡◌, List, ℕ, ◌+◌, ◌*◌, ◌/◌, ◌<◌, length}
use Rattle.base.specs.Lists.{filled}
use Rattle.trees.specs.Listings.{tree_of}
use Rattle.trees.specs.Quartets.{quartets}
use Rattle.leaf_orders.specs.declared.LeafOrder.{LeafOrder}
use Rattle.leaf_orders.specs.inner.LeafOrders.{at}

-- the count in column j of the row of the leaf at place p
abbrev pub count_of : LeafOrder → (p j : ℕ) → ℕ
count_of o p j = quartets o.n (tree_of o.n o.listing.now) (at o.leaves p) j

-- j cells of row i are written, `value` in each column: where a rule f of all cells has these values in the row, and
-- the rows before it were filled by f, these cells are too
pub record RowWritten {A : Type 0} (n i : ℕ) (value : ℕ → A) (before after : List A) (j : ℕ) : Type 0 where
  pub same_length : length after ≡ length before
  pub cells :
      (f : ℕ → A) (l : List A) → ((k : ℕ) → k < n → f (i * n + k) ≡ value k) → before ≡ filled (i * n) f l
      → after ≡ filled (i * n + j) f l

-- the rows of the leaves at the first p places hold what the rule f says
pub record RowsHold (n : ℕ) (leaves : List ℕ) (f : ℕ → ℕ) (cells : List ℕ) (p : ℕ) : Type 0 where
  pub right : (k q : ℕ) → q < p → k / n ≡ at leaves q → at cells k ≡ f k
