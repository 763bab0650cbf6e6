-- `gaps::fill_gap` meets its contract: the rows before i are written.
use mathlib.Core.Path.{◌≡◌}
use mathlib.Core.List.{List}
use Prim.Native.Nat.{ℕ, ◌*◌, ◌/◌, ◌%◌}
use lib.IntN.{ℤ, pos, ◌-ℤ◌}
use lib.ListN.{get_or}
use Rattle.base.specs.Lists.{filled}
use Rattle.trees.specs.Listings.{tree_of}
use Rattle.trees.specs.Quartets.{quartets}
use Rattle.gaps.proofs.fill_gap.Given as goal

-- the gaps, one after the other
abbrev pub gap_at : (n scale : ℕ) → List ℕ → List ℕ → ℕ → ℤ
gap_at n scale t l k = pos (get_or t k 0) -ℤ pos (scale * quartets n (tree_of n l) (k / n) (k % n))

abbrev pub invariant-loop-i : goal.invariant-loop-i
invariant-loop-i g l =
    let o = l.row.order.now in
    (o.n ≡ l.n) × (o.listing.now ≡ l.listing)
    × (l.out ≡ filled (l.i * l.n) (gap_at l.n g.row.SCALE l.cells l.listing) l.initial.out)
