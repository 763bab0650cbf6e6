-- `total_gaps::total_at_scale` meets its contract: the rows of the leaves at the places before p are added up.
use mathlib.Core.Path.{◌≡◌}
use Prim.Native.Nat.{◌-◌, ◌*◌, ◌^◌, ◌≤◌}
use Rattle.limits.specs.Limits.{most_leaves}
use Rattle.trees.specs.Listings.{tree_of}
use Rattle.total_gaps.proofs.Totals.{rows_gap}
use Rattle.total_gaps.proofs.total_at_scale.Given as goal

abbrev pub invariant-loop-p : goal.invariant-loop-p
invariant-loop-p g l =
    let o = l.row.order.now in
    (o.n ≡ l.n) × (o.listing.now ≡ l.listing)
    × (l.total ≡ rows_gap o.n g.row.SCALE l.cells (tree_of o.n o.listing.now) o.leaves l.p)
    × (l.total ≤ l.p * (most_leaves * (2 ^ 32 - 1)))
