-- `gap_sums::pair_place` meets its contract: the place is below the number of pairs.
use Prim.Native.Nat.{◌-◌, ◌≤◌}
use native.Mathlib.Nat.{mul-le-mul}
use native.Mathlib.Omega.{arith}
use Rattle.limits.specs.Limits.{most_leaves}
use Rattle.gap_sums.proofs.PairPlaces.{place_is, place_within}
use Rattle.gap_sums.proofs.pair_place.Goals as goal

pub returns : goal.returns
returns c =
    let a = c.args in
    let e = place_is a.i a.j in
    (e, rw e (place_within a.i a.j (omega arith) (omega arith)))
