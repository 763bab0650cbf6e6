-- How the cells of a grafted tree change where the new leaf n moves from the edge above a node to that above one of its
-- children, and the sums of gaps that change with them. No public contract cites it.
use Rattle.std.specs.Prelude.{◌≡◌, ◌≢◌, true, false, not, ◌&&◌, ◌||◌, List, ℕ, ◌+◌, ◌-◌, ◌*◌, ◌<◌}
use Rattle.base.specs.Numbers.{indicator, sum_below, between, distance}
use Rattle.trees.specs.Trees.{Tree, LeafSet, leaves, size}
use Rattle.trees.specs.Quartets.{quartets}
use Rattle.trees.specs.Tables.{cell}
use Rattle.grafted_trees.specs.Grafts.{grafted}

-- the leaves of neither subtree
unfoldable pub beyond : Tree → Tree → LeafSet
beyond A B k = not (leaves A k || leaves B k)

-- A node of number c has the children A and B, and a is the number of A. Where leaf n moves from the edge above the
-- node to the edge above A, only the cells between A and B change, and those between B and the leaves beyond.
pub record Moved (n : ℕ) (T : Tree) (c a : ℕ) (A B : Tree) : Type 0 where
  pub inside :
      (i j : ℕ) → leaves A i ≡ true → leaves B j ≡ true
      → (quartets (n + 1) (grafted n T c) i j ≡ quartets n T i j + (n - (size A + size B)))
      × (quartets (n + 1) (grafted n T a) i j ≡ quartets n T i j)
  pub outside :
      (i j : ℕ) → leaves B i ≡ true → j < n → beyond A B j ≡ true
      → (quartets (n + 1) (grafted n T c) i j ≡ quartets n T i j)
      × (quartets (n + 1) (grafted n T a) i j ≡ quartets n T i j + size A)
  pub same :
      (i j : ℕ) → i < n → j < n → i ≢ j → between (leaves A) (leaves B) i j ≡ false
      → between (leaves B) (beyond A B) i j ≡ false
      → quartets (n + 1) (grafted n T a) i j ≡ quartets (n + 1) (grafted n T c) i j

-- the sizes of the gaps between the new table u, at the scale s, and the table t with every cell z larger, added up
-- over the cells of two sets of leaves
unfoldable pub block_gap : (n s z : ℕ) (t u : List ℕ) → LeafSet → LeafSet → ℕ
block_gap n s z t u X Y =
    sum_below n (λ i. sum_below n (λ j.
    indicator (X i && Y j) (distance (cell (n + 1) u i j) (s * (cell n t i j + z)))))

-- the sizes of the gaps in the row of the new leaf, where it is grafted on the edge e
unfoldable pub new_row_gap : (n s : ℕ) (u : List ℕ) (T : Tree) (e : ℕ) → ℕ
new_row_gap n s u T e =
    sum_below n (λ i. distance (cell (n + 1) u i n) (s * quartets (n + 1) (grafted n T e) i n))
