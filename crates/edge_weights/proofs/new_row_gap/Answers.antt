-- `edge_weights::new_row_gap` meets its contract: the gaps before column i are added up.
use mathlib.Core.Path.{◌≡◌}
use Prim.Native.Nat.{ℕ, ◌+◌, ◌-◌, ◌*◌, ◌≤◌, ◌<◌}
use native.Mathlib.Nat.{add-zero, mul-le-mul_right}
use native.Mathlib.Omega.{arith}
use lib.ListN.{length, get_or}
use Rattle.limits.specs.Limits.{most_leaves, most_cells, largest_cell, most_scale}
use Rattle.pair_counts.proofs.Pairs.{P_most}
use Rattle.trees.specs.Tables.{cell}
use Rattle.block_gaps.specs.inner.Blocks.{most_gap}
use Rattle.block_gaps.proofs.AddedGaps.{old_place, scaled_small}
use Rattle.edge_weights.proofs.RowGapSums.{gaps_begun, gaps_more}
use Rattle.edge_weights.proofs.new_row_gap.Goals.{In-loop-i, Start}
use Rattle.edge_weights.proofs.new_row_gap.Goals as goal

-- the next cell of the row of leaf f
here :
    (c : In-loop-i)
    → let k = c.args.f * c.args.t.n + c.loop-i.i in
    (k < most_cells) × (k < length c.args.t.table.now)
here c =
    let p = c.requires in
    old_place c.args.t.fit p.first c.loop-i-test.true

-- no cell of the table is too large at the scale
scaled :
    (s : Start) (k : ℕ)
    → s.args.t.scale * get_or s.args.t.table.now k 0 ≤ most_scale * (largest_cell + most_leaves)
scaled s k = rw add-zero at (scaled_small s.args.t.fit k 0 (omega arith))

pub overflow_mul-old_row : goal.overflow_mul-old_row
overflow_mul-old_row c =
    let p = c.requires in
    omega (arith, (old_place c.args.t.fit p.first p.first).0)

pub loop-i-init : goal.loop-i-init
loop-i-init c = gaps_begun

pub overflow_add-m : goal.overflow_add-m
overflow_add-m c =
    let a = c.args in
    let inside = c.requires.small_counts (a.t.n - a.size) (omega arith) in
    omega (arith, c.requires.small c.loop-i.i c.loop-i-test.true, inside, P_most)

pub overflow_add-old_row : goal.overflow_add-old_row
overflow_add-old_row c = omega (arith, (here (goal.at.overflow_add-old_row c).In-loop-i).0)

pub offset_bounds-t-old_row : goal.offset_bounds-t-old_row
offset_bounds-t-old_row c = omega (arith, (here (goal.at.offset_bounds-t-old_row c).In-loop-i).0)

pub bounds-t-old_row : goal.bounds-t-old_row
bounds-t-old_row c = (here (goal.at.bounds-t-old_row c).In-loop-i).1

pub overflow_mul-t : goal.overflow_mul-t
overflow_mul-t c =
    omega (arith, scaled (goal.at.overflow_mul-t c).Start (c.args.f * c.args.t.n + c.loop-i.i))

pub overflow_add-t : goal.overflow_add-t
overflow_add-t c =
    let outside = c.requires.small_counts c.args.size (omega (arith, c.requires.some)) in
    omega (arith, scaled (goal.at.overflow_add-t c).Start (c.args.f * c.args.t.n + c.loop-i.i), outside, P_most)

pub loop-i-preserved : goal.loop-i-preserved
unfolding cell
loop-i-preserved c =
    rw c.from-sum.ensures
    (gaps_more c.loop-i.invariant c.near_or_far-count.ensures c.apart.ensures.0 c.apart.ensures.1)

pub returns : goal.returns
returns c =
    let l = c.loop-i in
    let e : l.i ≡ c.args.t.n = omega arith in
    let few : l.i ≤ most_leaves = omega (arith, c.args.t.fit.few) in (
      rw e at l.invariant.sum,
      omega (arith, l.invariant.small, mul-le-mul_right most_gap few),
    )
