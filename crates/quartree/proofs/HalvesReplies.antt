-- The two leaves of 5 have eight bits each, so that `halves_apart` takes them apart again.
use mathlib.Core.Path.{◌≡◌}
use mathlib.Core.List.{List}
use mathlib.Core.Option.{some}
use Prim.Native.Nat.{ℕ, ◌<◌}
use native.Mathlib.Omega.{arith}
use Rattle.limits.specs.Limits.{IsLeafCount}
use Rattle.refusals.specs.declared.Refusal.TheVariants.{Halves}
use Rattle.trees.specs.Tables.{cells_refusal}
use Rattle.table_checks.proofs.Causes.{halves_below}
use Rattle.replies.specs.Replies.{eight_bits}

pub halves_small :
    (n : ℕ) (t : List ℕ) → IsLeafCount n → (i j : ℕ) → cells_refusal n t ≡ some (Halves i j)
    → (i < eight_bits) × (j < eight_bits)
halves_small n t k i j e = let low = halves_below n t k i j e in (omega (arith, low, k), omega (arith, low, k))
