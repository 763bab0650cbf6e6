-- Unordered pairs (01, "Counts and merges"): P(k), and how many pairs of numbers below n pass a test.
use Rattle.std.specs.Prelude.{Bool, ℕ, zero, suc, ◌+◌, ◌-◌, ◌*◌, ◌/◌}
use Rattle.base.specs.Numbers.{count_below}

-- P(k) = k(k − 1)/2; a difference stops at 0, so P(0) = 0
unfoldable pub P : ℕ → ℕ
P k = k * (k - 1) / 2

-- how many pairs p < q < n pass
unfoldable pub pairs_below : ℕ → (ℕ → ℕ → Bool) → ℕ
pairs_below zero f = 0
pairs_below (suc n) f = pairs_below n f + count_below n (λ p. f p n)
