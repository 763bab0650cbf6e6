-- `nearest_pairs::renewed` meets its contract. The partner of one label after a merge.
use mathlib.Core.Logic.{◌≢◌}
use Prim.Native.Nat.{◌<◌}
use native.Mathlib.Omega.{arith}
use Rattle.nearest_pairs.specs.inner.Nearest.{TwoLabels}
use Rattle.nearest_pairs.proofs.Search.{new_two, old_two, renewed_up, renewed_down}
use Rattle.nearest_pairs.proofs.renewed.Goals.{Else-a-i}
use Rattle.nearest_pairs.proofs.renewed.Goals as goal

-- where the partner is not looked for anew
fresh :
    (c : Else-a-i)
    → let a = c.args in
    (a.i ≢ a.a) × (a.old ≢ a.a) × (a.old ≢ a.b)
fresh c = c.is_stale.ensures c.if-is_stale.false

-- i comes before `a`; its pairs with `a` and with its old partner
early : (c : Else-a-i) → let a = c.args in a.i < a.a
early c =
    let apart = (fresh c).0 in
    let l = c.if-a-i.false in
    omega arith

pub returns-then-old-a : goal.returns-then-old-a
returns-then-old-a c =
    let d = fresh (goal.at.returns-then-old-a c).Else-a-i in
    renewed_up c.requires.0 c.requires.1 c.requires.2 c.requires.4 c.requires.5
    (early (goal.at.returns-then-old-a c).Else-a-i) d.1 d.2
    c.nearer_of_two.ensures

pub returns : goal.returns
returns c =
    let d = fresh (goal.at.returns c).Else-a-i in
    renewed_down c.requires.0 c.requires.1 c.requires.2 c.requires.4 c.requires.5 (early (goal.at.returns c).Else-a-i)
    d.1 d.2
    c.nearer_of_two-2.ensures
