-- `looks::total_at` meets its contract: the leaf is grafted on a copy, and the gaps are added up.
use mathlib.Core.Path.{sym, ◌∙◌}
use native.Mathlib.Omega.{arith}
use Rattle.limits.specs.Limits.{IsLeafCount}
use Rattle.limits.proofs.TableKinds.{leaf_count_of}
use Rattle.looks.proofs.GraftedListings.{front_fits, front_long, front_keeps, front_total}
use Prim.Native.Nat.{◌+◌}
use Rattle.looks.proofs.total_at.Goals.{Start}
use Rattle.looks.proofs.total_at.Goals as goal

-- the grafted tree's leaf count is a tree's
count : (c : Start) → IsLeafCount (c.args.n + 1)
count c = leaf_count_of c.args.kind (c.args.n + 1) c.requires.1

pub graft_rows-requires : goal.graft_rows-requires
graft_rows-requires c =
    (c.requires.0, c.requires.2, c.requires.4, omega (arith, count (goal.at.graft_rows-requires c).Start))

pub slice_bounds-rows-end : goal.slice_bounds-rows-end
slice_bounds-rows-end c =
    let larger = count (goal.at.slice_bounds-rows-end c).Start in
    front_fits _ _ _ _ _ c.requires.0 larger c.requires.2 c.requires.4 c.graft_rows.ensures

pub slice_bounds-total_gap-end : goal.slice_bounds-total_gap-end
slice_bounds-total_gap-end c =
    let larger = count (goal.at.slice_bounds-total_gap-end c).Start in
    sym (front_long _ _ _ _ _ c.requires.0 larger c.requires.2 c.requires.4 c.graft_rows.ensures)

pub total_gap-requires : goal.total_gap-requires
total_gap-requires c =
    let larger = count (goal.at.total_gap-requires c).Start in (
      larger,
      c.requires.3,
      front_keeps _ _ _ _ _ c.requires.0 larger c.requires.2 c.requires.4 c.graft_rows.ensures,
    )

pub returns : goal.returns
returns c =
    c.total_gap.ensures
    ∙ front_total _ _ _ _ _ c.requires.0 (count (goal.at.returns c).Start) c.requires.2 c.requires.4
    c.graft_rows.ensures c.args.kind _
