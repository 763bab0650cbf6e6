-- The gaps in the row of the new leaf, added up: no cell, and one more; and that no count is too large.
use mathlib.Core.Path.{◌≡◌, refl}
use mathlib.Core.List.{List}
use Prim.Native.Nat.{ℕ, ◌+◌, ◌-◌, ◌*◌, ◌^◌, ◌<◌}
use native.Mathlib.Omega.{arith}
use lib.ListN.{get_or}
use Rattle.base.specs.Numbers.{sum_below, distance}
use Rattle.base.proofs.Sums.{sum_more}
use Rattle.trees.specs.Tables.{cell}
use Rattle.edge_weights.specs.inner.NewRows.{count_at, row_gap, RowGapAdded}

module _ {n f size s : ℕ} {label m p t u : List ℕ} where
  pub gaps_begun : RowGapAdded n f size s label m p t u 0 0
  unfolding row_gap sum_below
  gaps_begun = record { sum = refl; small = omega arith }

  pub gaps_more :
      {i r d x : ℕ} → RowGapAdded n f size s label m p t u i r
      → x
      ≡ count_at (get_or label i 0) f (get_or m i 0 + get_or p (n - size) 0)
      (s * cell n t f i + (get_or p size 0 - get_or m f 0))
      → d ≡ distance (cell (n + 1) u n i) x → d < 2 ^ 32 → RowGapAdded n f size s label m p t u (i + 1) (r + d)
  unfolding row_gap
  gaps_more {i = i} a e g small = record { sum = rw (sum_more i, a.sum, g, e); small = omega (arith, a.small) }
