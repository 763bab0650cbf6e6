-- The totals for all edges, found from that for the last and from the weights. No public contract cites it.
use Rattle.std.specs.Prelude.{◌≡◌, List, ℕ, ◌+◌, ◌-◌, ◌*◌, ◌^◌, ◌≤◌, ◌<◌, length, get_or}
use Rattle.limits.specs.Limits.{most_nodes, IsLeafCount}
use Rattle.trees.specs.Listings.{KeepsRules}
use Rattle.block_gaps.specs.inner.Blocks.{most_gaps}

-- the totals f move by the weights: from the edge above the node of number c to that above its child e
abbrev pub MovesTo : (gains losses rows : List ℕ) (f : ℕ → ℕ) (c e : ℕ) → Type 0
MovesTo gains losses rows f c e = f e + (get_or losses e 0 + get_or rows c 0) ≡ f c + get_or gains e 0

-- they do so at every row, and neither they nor the gains are too large
pub record Moves (n : ℕ) (l gains losses rows : List ℕ) (f : ℕ → ℕ) : Type 0 where
  pub first : (k : ℕ) → k < n - 2 → MovesTo gains losses rows f (n + k) (get_or l (2 * k) 0)
  pub second : (k : ℕ) → k < n - 2 → MovesTo gains losses rows f (n + k) (get_or l (2 * k + 1) 0)
  pub small : (e : ℕ) → f e < 2 ^ 48
  pub gains_small : (q : ℕ) → q < 2 * (n - 2) → get_or gains (get_or l q 0) 0 ≤ 3 * most_gaps

-- what is asked of one move: it has a place, no sum wraps, and no difference falls below 0
pub record MoveFits (e above row : ℕ) (gains losses : List ℕ) (room : ℕ) : Type 0 where
  pub positive : 0 < e
  pub place : e ≤ room
  pub number : e < most_nodes
  pub above_small : above < 2 ^ 48
  pub gain_small : get_or gains e 0 ≤ 3 * most_gaps
  pub covered : get_or losses e 0 + row ≤ above + get_or gains e 0

-- what is asked of all: there are such totals, room for them, and that for the last edge is there
pub record SpreadReady (n : ℕ) (l gains losses rows out : List ℕ) : Type 0 where
  pub count : IsLeafCount n
  pub keeps : KeepsRules n l
  pub room : 2 * n - 3 ≤ length out
  pub totals : ℕ → ℕ
  pub moves : Moves n l gains losses rows totals
  pub last : get_or out (2 * n - 4) 0 ≡ totals (2 * n - 3)
