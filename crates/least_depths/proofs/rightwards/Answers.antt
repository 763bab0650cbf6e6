-- `least_depths::rightwards` meets its contract: the places between p and t have their least depths.
use mathlib.Core.Path.{◌≡◌}
use Prim.Native.Nat.{◌+◌, ◌-◌}
use native.Mathlib.Omega.{arith}
use Rattle.least_depths.proofs.LeastDepths.{shallowest_none, after_more}
use Rattle.least_depths.proofs.rightwards.Goals as goal

pub loop-t-init : goal.loop-t-init
loop-t-init c =
    let start : c.args.p + 1 - 1 ≡ c.args.p = omega arith in
    (c.told-tops, rw start (shallowest_none _ _), λ t a b. absurd (omega arith))

pub loop-t-preserved : goal.loop-t-preserved
loop-t-preserved c =
    let i = c.loop-t in
    let a = c.args in
    let r = c.keep_least-low.ensures in
    let next =
    after_more a.n a.leaves.now a.depths.now i.tops _ a.p i.t i.low c.keep_least-low.result c.requires.0
    i.invariant.0 r.0 r.1 r.2 (omega arith) (omega arith) i.invariant.1 i.invariant.2 r.3 in
    (next.0, next.1, next.2)
