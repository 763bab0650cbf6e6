-- What the arrays of a rebuild stand for: a state that merging reaches.
use Rattle.std.specs.Prelude.{◌≡◌, List, ℕ, ◌*◌, ◌<◌, length, get_or}
use Rattle.limits.specs.Limits.{most_leaves}
use Rattle.trees.specs.Trees.{size, least}
use Rattle.merging.specs.Merging.{State}

-- the arrays hold the state S, at the scale s: a leaf's label is the least leaf of its subtree; m and sizes are those
-- of S
pub record HoldsState (n s : ℕ) (label m sizes : List ℕ) (S : State) : Type 0 where
  pub label_long : length label ≡ most_leaves
  pub m_long : length m ≡ most_leaves
  pub sizes_long : length sizes ≡ most_leaves
  pub labels : (k : ℕ) → k < n → get_or label k 0 ≡ least (S.tree k)
  pub sums : (k : ℕ) → k < n → get_or m k 0 ≡ s * S.m k
  pub sized : (k : ℕ) → k < n → get_or label k 0 ≡ k → get_or sizes k 0 ≡ size (S.tree k)
