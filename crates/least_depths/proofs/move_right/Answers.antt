-- `least_depths::move_right` meets its contract: the places between p and t have their least depths, and where it stops
-- the least depth from place p - 1 is that from place p.
use mathlib.Core.Path.{◌≡◌, refl, ◌∙◌}
use mathlib.Core.Logic.{inl, inr}
use Prim.Native.Nat.{◌+◌, ◌-◌}
use native.Mathlib.Omega.{arith}
use native.Mathlib.Decide.{dec_lt}
use Rattle.least_depths.proofs.LeastDepths.{shallowest_none, after_more, after_still}
use Rattle.least_depths.proofs.move_right.Goals as goal

pub loop-t-init : goal.loop-t-init
loop-t-init c =
    let start : c.args.p + 1 - 1 ≡ c.args.p = omega arith in
    let none = shallowest_none _ _ in
    (omega arith, omega arith, c.told-tops, rw start none, λ s a b. absurd (omega arith), λ s a b. refl)

pub loop-t-preserved : goal.loop-t-preserved
loop-t-preserved c =
    let i = c.loop-t in
    let a = c.args in
    let r = c.keep_least-low.ensures in
    let next =
    after_more a.n a.leaves.now a.depths.now i.tops _ a.p i.t i.low c.keep_least-low.result c.requires.0
    i.invariant.2 r.0 r.1 r.2 i.invariant.0 c.loop-t-test.true i.invariant.3 i.invariant.4 r.3 in (
      omega arith,
      omega arith,
      next.0,
      next.1,
      next.2,
      λ v w l. elim w [
        | inl b ↦ next.3 v l (omega arith) ∙ i.invariant.5 v (inl b) l
        | inr b ↦ next.3 v l (omega arith) ∙ i.invariant.5 v (inr (omega arith)) l
      ],
    )

pub returns-else-least-depths : goal.returns-else-least-depths
returns-else-least-depths c =
    let i = c.loop-t in (
      λ v a b. elim (dec_lt v i.t) [
        | yes l ↦ i.invariant.4 v a l
        | no l ↦
            rw (i.invariant.5 v (inr (omega arith)) b)
            (after_still {t = i.t} c.if-least-depths.false c.requires.1 i.invariant.0 (omega arith)
            (c.requires.3 v (omega arith) b))
      ],
      λ v a. i.invariant.5 v (inl a) (omega arith),
    )
