-- The order of the leaves of a tree, as the crates above rely on it.
-- The leaves stand in an order in which those of each subtree follow one another. Between two neighbours lies the depth
-- of the node in which they meet. A node is less deep than those under it, so that of any two leaves the node in which
-- they meet has the least depth between them; their count is found from that depth and from two sums.
use Rattle.std.specs.Prelude.{◌≡◌, List, ℕ, ◌+◌, ◌*◌, ◌≤◌, ◌<◌, get_or}
use Rattle.limits.specs.Limits.{most_leaves, most_cells}
use Rattle.trees.specs.Trees.{Tree}
use Rattle.trees.specs.Quartets.{quartets}

-- no sum of pairs that branch off is larger
abbrev pub most_sum : ℕ
most_sum = most_cells

-- a whole: more than what branches off above any two leaves
abbrev pub whole : ℕ
whole = 2 * most_sum

-- no depth is larger
abbrev pub most_depth : ℕ
most_depth = 3 * most_sum

-- the entries of an array
abbrev pub at : List ℕ → ℕ → ℕ
at xs k = get_or xs k 0

-- m is the least of the depths between the places lo and hi
pub record LeastBetween (depths : List ℕ) (lo hi m : ℕ) : Type 0 where
  pub bound : (t : ℕ) → lo < t → t ≤ hi → m ≤ at depths t
  pub greatest : (z : ℕ) → z ≤ most_depth → ((t : ℕ) → lo < t → t ≤ hi → z ≤ at depths t) → z ≤ m

-- the first n leaves of a tree in order: each has a place of its own, and each place a leaf; and of any two of them the
-- count is told by what branches off above the two and by the least depth between their places
pub record IsLeafOrder (n : ℕ) (T : Tree) (places aboves leaves depths : List ℕ) : Type 0 where
  pub few : n ≤ most_leaves
  pub leaf_below : (s : ℕ) → s < n → at leaves s < n
  pub place_below : (k : ℕ) → k < n → at places k < n
  pub leaf_there : (k : ℕ) → k < n → at leaves (at places k) ≡ k
  pub place_there : (s : ℕ) → s < n → at places (at leaves s) ≡ s
  pub small : (k : ℕ) → k < n → at aboves k ≤ most_sum
  pub told :
      (s t m : ℕ) → s < t → t < n → LeastBetween depths s t m
      → at aboves (at leaves s) + at aboves (at leaves t) + m ≡ quartets n T (at leaves s) (at leaves t) + whole
