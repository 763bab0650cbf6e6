-- `least_depths::leftwards` meets its contract: the places from t to p have their least depths.
use mathlib.Core.Path.{◌≡◌, refl, ◌∙◌}
use Prim.Native.Nat.{◌+◌, ◌-◌}
use native.Mathlib.Omega.{arith}
use Rattle.least_depths.proofs.LeastDepths.{shallowest_none, before_more}
use Rattle.least_depths.proofs.leftwards.Goals as goal

pub loop-t-init : goal.loop-t-init
loop-t-init c = (c.told-tops, shallowest_none _ _, λ t a b. absurd (omega arith), λ t a b. refl)

pub loop-t-preserved : goal.loop-t-preserved
loop-t-preserved c =
    let i = c.loop-t in
    let a = c.args in
    let r = c.keep_least-low.ensures in
    let here : i.t - 1 + 1 ≡ i.t = omega arith in
    let next =
    before_more a.n a.leaves.now a.depths.now i.tops _ a.p i.t i.low c.keep_least-low.result c.requires.0
    i.invariant.0 r.0 (rw here at r.1) (rw here at r.2) (omega arith) (omega arith) c.requires.1 i.invariant.1
    i.invariant.2 r.3 in
    (next.0, next.1, next.2, λ s l m. next.3 s m (omega arith) ∙ i.invariant.3 s l m)
