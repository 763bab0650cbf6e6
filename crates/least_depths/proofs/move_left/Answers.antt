-- `least_depths::move_left` meets its contract: the places from t to p have their least depths, and where it stops the
-- least depth to place p - 1 is that to place p.
use mathlib.Core.Path.{◌≡◌, refl, ◌∙◌}
use mathlib.Core.Logic.{inl, inr, ◌≢◌}
use Prim.Native.Nat.{ℕ, ◌-◌, ◌≤◌, ◌<◌}
use native.Mathlib.Omega.{arith}
use native.Mathlib.Decide.{dec_lt}
use Rattle.leaf_orders.specs.inner.LeafOrders.{at, LeastBetween}
use Rattle.least_depths.specs.inner.Depths.{Before}
use Rattle.least_depths.proofs.LeastDepths.{shallowest_none, before_more, before_still}
use Rattle.least_depths.proofs.move_left.Goals.{After-keep_least-low}
use Rattle.least_depths.proofs.move_left.Goals as goal

-- the place before p has its own
first :
    (c : After-keep_least-low)
    → (let a = c.args in
    let tops = c.keep_least-low.new.tops in
    LeastBetween a.depths.now (a.p - 1) a.p c.keep_least-low.result
    × Before a.leaves.now a.depths.now a.p tops (a.p - 1)
    × ((s : ℕ) → s < a.n → s ≢ a.p - 1 → at tops (at a.leaves.now s) ≡ at a.tops.now (at a.leaves.now s)))
first c =
    let a = c.args in
    let r = c.keep_least-low.ensures in
    let more =
    before_more a.n a.leaves.now a.depths.now a.tops.now _ a.p a.p _ c.keep_least-low.result c.requires.0
    c.told-tops r.0 r.1 r.2 c.requires.1 (omega arith) c.requires.2 (shallowest_none _ _)
    (λ v l m. absurd (omega arith)) r.3 in
    (more.1, more.2, more.3)

pub loop-t-init : goal.loop-t-init
loop-t-init c =
    let f = first c in (omega arith, c.keep_least-low.array_long, f.0, f.1, λ v w l. refl)

pub loop-t-preserved : goal.loop-t-preserved
loop-t-preserved c =
    let i = c.loop-t in
    let a = c.args in
    let r = c.keep_least-low-in-loop-t.ensures in
    let next =
    before_more a.n a.leaves.now a.depths.now i.tops _ a.p i.t i.low c.keep_least-low-in-loop-t.result c.requires.0
    i.invariant.1 r.0 r.1 r.2 c.loop-t-test.true (omega arith) c.requires.2 i.invariant.2 i.invariant.3 r.3 in (
      omega arith,
      next.0,
      next.1,
      next.2,
      λ v w l. elim w [
        | inl b ↦ next.3 v l (omega arith) ∙ i.invariant.4 v (inl (omega arith)) l
        | inr b ↦ next.3 v l (omega arith) ∙ i.invariant.4 v (inr b) l
      ],
    )

pub returns-else-low-depths : goal.returns-else-low-depths
returns-else-low-depths c =
    let i = c.loop-t in
    let same = (first (goal.at.returns-else-low-depths c).After-keep_least-low).2 in
    let depths = c.args.depths.now in (
      λ v a b. elim (dec_lt v i.t) [
        | yes l ↦
            let less : at depths i.t ≤ at depths c.args.p =
            omega (arith, c.if-low-depths.false, i.invariant.2.bound c.args.p i.invariant.0 (omega arith)) in
            rw (i.invariant.4 v (inl l) (omega arith) ∙ same v (omega arith) (omega arith))
            (before_still less l i.invariant.0 (c.requires.3 v a (omega arith)))
        | no l ↦ i.invariant.3 v (omega arith) b
      ],
      λ v a b. i.invariant.4 v (inr a) b ∙ same v b (omega arith),
    )
