-- What the functions that find a row of a tree's table promise to each other, and to the crates above.
use Rattle.std.specs.Prelude.{◌≡◌, List, ℕ, ◌+◌, ◌-◌, ◌≤◌, ◌<◌, length}
use Rattle.limits.specs.Limits.{most_leaves}
use Rattle.leaf_orders.specs.inner.LeafOrders.{whole, at, LeastBetween}

-- the least depth between place p and each place after it that comes before m, and each before it from m on
abbrev pub After : (leaves depths : List ℕ) (p : ℕ) (tops : List ℕ) (m : ℕ) → Type 0
After leaves depths p tops m = (s : ℕ) → p < s → s < m → LeastBetween depths p s (at tops (at leaves s))

abbrev pub Before : (leaves depths : List ℕ) (p : ℕ) (tops : List ℕ) (m : ℕ) → Type 0
Before leaves depths p tops m = (s : ℕ) → m ≤ s → s < p → LeastBetween depths s p (at tops (at leaves s))

-- each place has a leaf of its own
pub record OwnLeaves (n : ℕ) (order : List ℕ) : Type 0 where
  pub few : n ≤ most_leaves
  pub below : (s : ℕ) → s < n → at order s < n
  pub once : (s t : ℕ) → s < n → t < n → at order s ≡ at order t → s ≡ t

-- the least depth between place p and that of each other leaf; `own` for the leaf at p
pub record LeastDepths (n : ℕ) (order depths : List ℕ) (p own : ℕ) (tops : List ℕ) : Type 0 where
  pub long : length tops ≡ most_leaves
  pub here : at tops (at order p) ≡ own
  pub after : (s : ℕ) → p < s → s < n → LeastBetween depths p s (at tops (at order s))
  pub before : (s : ℕ) → s < p → LeastBetween depths s p (at tops (at order s))

-- the least depths from place p; the leaf there keeps what makes its own count 0
abbrev pub TopsFrom : (n : ℕ) (aboves order depths : List ℕ) (p : ℕ) (tops : List ℕ) → Type 0
TopsFrom n aboves order depths p tops =
    LeastDepths n order depths p (whole - (at aboves (at order p) + at aboves (at order p))) tops

-- before the row at place p: the least depths from the place before it, if there is one
pub record TopsBefore (n : ℕ) (aboves order depths : List ℕ) (p : ℕ) (tops : List ℕ) : Type 0 where
  pub long : length tops ≡ most_leaves
  pub last : 0 < p → TopsFrom n aboves order depths (p - 1) tops

-- the row of the leaf at place p: what branches off above the leaf, the least depth between its place and that of each
-- other leaf, and for the leaf itself what makes its own count 0
pub record RowFound (n p base : ℕ) (aboves leaves depths tops : List ℕ) : Type 0 where
  pub place : p < n
  pub above : base ≡ at aboves (at leaves p)
  pub long : length tops ≡ most_leaves
  pub here : at tops (at leaves p) ≡ whole - (base + base)
  pub after : After leaves depths p tops n
  pub before : Before leaves depths p tops 0
