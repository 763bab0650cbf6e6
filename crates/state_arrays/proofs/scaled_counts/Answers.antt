-- `state_arrays::scaled_counts` meets its contract. The loop's invariant: the pair counts passed are scaled.
use mathlib.Core.Path.{◌≡◌, ap, sym, ◌∙◌}
use mathlib.Core.List.{List}
use Prim.Native.Nat.{ℕ, ◌+◌, ◌*◌, ◌≤◌, ◌<◌}
use native.Mathlib.Nat.{mul_comm, mul-le-mul}
use native.Mathlib.Omega.{arith}
use lib.ListN.{length, get_or}
use Rattle.base.specs.Lists.{tab, filled}
use Rattle.base.proofs.Lists.{length_tab, getD_tab}
use Rattle.base.proofs.Filling.{filled_none, filled_more, getD_filled, getD_next}
use Rattle.limits.specs.Limits.{most_leaves, most_scale}
use Rattle.limits.proofs.TableKinds.{scale_bounds}
use Rattle.pair_counts.specs.Pairs.{P}
use Rattle.pair_counts.proofs.Pairs.{P_mono, P_most}
use Rattle.state_arrays.proofs.scaled_counts.Goals.{In-loop-count}
use Rattle.state_arrays.proofs.scaled_counts.Goals as goal

-- a pair count that is not yet scaled
unscaled :
    (s k : ℕ) {p₀ p : List ℕ} → p₀ ≡ tab (most_leaves + 1) P → p ≡ filled k (λ j. s * P j) p₀ → k ≤ most_leaves
    → get_or p k 0 ≡ P k
unscaled s k {p₀} {p} e f l =
    let inside : k < length p₀ = omega (arith, ap length e, length_tab (most_leaves + 1) P) in
    let same : get_or p k 0 ≡ get_or p₀ k 0 = rw f (getD_next (λ j. s * P j) p₀ k 0 inside) in
    same ∙ rw e (getD_tab (most_leaves + 1) P k 0 (omega arith))

pub loop-count-init : goal.loop-count-init
loop-count-init c = (c.pair_counts-p.ensures, sym (filled_none _ _))

next : (c : In-loop-count) → get_or c.loop-count.count-items c.loop-count.count-index 0 ≡ P c.loop-count.count-index
next c = unscaled _ _ c.loop-count.invariant.0 c.loop-count.invariant.1 (omega arith)

pub overflow_mul-count : goal.overflow_mul-count
overflow_mul-count c =
    let k = c.loop-count.count-index in
    let most = P_mono k most_leaves (omega arith) in
    let unscaled = next (goal.at.overflow_mul-count c).In-loop-count in
    let small : get_or c.loop-count.count-items k 0 ≤ P most_leaves = omega (arith, unscaled, most) in
    let bound = (scale_bounds c.args.kind).1 in
    let scaled : c.scale-scale.result ≤ most_scale = rw c.scale-scale.ensures bound in
    omega (arith, P_most, mul-le-mul small scaled)

pub loop-count-preserved : goal.loop-count-preserved
loop-count-preserved c =
    let l = c.loop-count in
    let long = ap length l.invariant.0 ∙ length_tab (most_leaves + 1) P in
    let scale = c.scale-scale.result in
    let grown = mul_comm _ scale ∙ ap (λ z. scale * z) (next (goal.at.loop-count-preserved c).In-loop-count) in
    (l.invariant.0, filled_more _ _ l.invariant.1 (omega (arith, long)) grown)

pub returns : goal.returns
returns c = λ k l.
    rw c.loop-count.invariant.1
    (getD_filled _ _ c.loop-count.count-index k 0 (omega arith) ∙ ap (λ z. z * P k) c.scale-scale.ensures)
