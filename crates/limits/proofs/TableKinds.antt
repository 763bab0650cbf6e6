-- The kinds of tables: a tree may have as many leaves as a poll may have, and every scale is at least 1 and at most the
-- largest.
use Prim.Native.Nat.{ℕ, ◌≤◌}
use native.Mathlib.Omega.{arith}
use Rattle.limits.specs.declared.Kind.{Kind}
use Rattle.limits.specs.declared.Kind.TheVariants.{Counts, Poll}
use Rattle.limits.specs.Limits.{IsLeafCount, IsCountOf, scale_of, most_scale}

pub leaf_count_of : (kind : Kind) (n : ℕ) → IsCountOf kind n → IsLeafCount n
leaf_count_of Counts n h = h
leaf_count_of Poll n h = (omega (arith, h), omega (arith, h))

pub scale_bounds : (kind : Kind) → (1 ≤ scale_of kind) × (scale_of kind ≤ most_scale)
scale_bounds Counts = (omega arith, omega arith)
scale_bounds Poll = (omega arith, omega arith)
