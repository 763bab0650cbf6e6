-- Eligibility and lists of merges as statements: two subtrees differ, a pair is eligible, a state runs to another.
-- Inner contracts and proofs speak so; the tests are `eligible` and `allowed`.
use Rattle.std.specs.Prelude.{◌≡◌, true, false, ℕ, ◌+◌, ◌-◌, ◌*◌, ◌<◌}
use Rattle.pair_counts.specs.Pairs.{P}
use Rattle.trees.specs.Trees.{leaves, size}
use Rattle.merging.specs.Merging.{State, step}

-- i and j are leaves of two different subtrees
pub record Differ (n : ℕ) (S : State) (i j : ℕ) : Type 0 where
  pub left : i < n
  pub right : j < n
  pub apart : leaves (S.tree i) j ≡ false

-- the same as `eligible`, as a statement
pub record Eligible (n s : ℕ) (c : ℕ → ℕ → ℕ) (S : State) (i j : ℕ) : Type 0 where
  pub left : i < n
  pub right : j < n
  pub apart : leaves (S.tree i) j ≡ false
  pub cells :
      (x y : ℕ) → leaves (S.tree i) x ≡ true → leaves (S.tree j) y ≡ true
      → c x y ≡ s * (P (n - (size (S.tree i) + size (S.tree j))) + (S.m x + S.m y))

-- S runs to S' by some list of pairs, each eligible at its turn
pub data Runs (n s : ℕ) (c : ℕ → ℕ → ℕ) : State → State → Type 0 where
  halt : {S : State} → Runs n s c S S
  then : {S S' : State} (i j : ℕ) → Eligible n s c S i j → Runs n s c (step S i j) S' → Runs n s c S S'
