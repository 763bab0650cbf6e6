-- The test at the end of our own rebuild, when all leaves but 0 have been merged as far as they may be.
use Rattle.std.specs.Prelude.{◌≡◌, List, ℕ, ◌≤◌, ◌<◌, get_or}

-- every leaf from 1 on is in the subtree of leaf 1, and its cell in the first row is its m
abbrev pub OneSubtreeFits : ℕ → List ℕ → List ℕ → List ℕ → Type 0
OneSubtreeFits n table label m = (k : ℕ) → k < n → 1 ≤ k → (get_or label k 0 ≡ 1) × (get_or table k 0 ≡ get_or m k 0)
