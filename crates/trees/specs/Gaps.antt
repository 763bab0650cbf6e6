-- The total gap between a table and a tree (02): the sum over i < j of the gap's size. At the scale s gaps are taken
-- from s times the tree's counts; s is 1 for a count table.
use Rattle.std.specs.Prelude.{List, ℕ, ◌*◌}
use Rattle.base.specs.Numbers.{pair_sum, distance}
use Rattle.trees.specs.Trees.{Tree}
use Rattle.trees.specs.Quartets.{quartets}
use Rattle.trees.specs.Tables.{cell}

-- the size of the gap at (i, j)
unfoldable pub gap_size : ℕ → ℕ → List ℕ → Tree → ℕ → ℕ → ℕ
gap_size n s t T i j = distance (cell n t i j) (s * quartets n T i j)

-- the total gap
unfoldable pub total_gap : ℕ → ℕ → List ℕ → Tree → ℕ
total_gap n s t T = pair_sum n (gap_size n s t T)
