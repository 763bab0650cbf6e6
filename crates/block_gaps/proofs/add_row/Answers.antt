-- `block_gaps::add_row` meets its contract: the gaps before column j are added up, as they are and with larger cells.
use mathlib.Core.Path.{◌≡◌, ◌∙◌}
use Prim.Native.Nat.{◌+◌, ◌*◌, ◌<◌}
use native.Mathlib.Nat.{add-zero}
use native.Mathlib.Omega.{arith}
use lib.ListN.{length}
use Rattle.limits.specs.Limits.{most_cells}
use Rattle.trees.specs.Tables.{cell}
use Rattle.block_gaps.proofs.AddedGaps.{old_place, new_place, scaled_small, row_begun, row_more}
use Rattle.block_gaps.proofs.add_row.Goals.{In-loop-j, Start}
use Rattle.block_gaps.proofs.add_row.Goals as goal

-- where the first cells of the row stand
module _ (c : Start) where
  first : c.args.i * c.args.t.n < most_cells
  first = let p = c.requires in omega (arith, (old_place c.args.t.fit p.0 p.0).0)

  new_first : c.args.i * (c.args.t.n + 1) < most_cells
  new_first =
      let p = c.requires in
      let less : c.args.i < c.args.t.n + 1 = omega arith in
      omega (arith, (new_place c.args.t.fit less less).0)

-- and the next ones
module _ (c : In-loop-j) where
  old_here :
      let a = c.args in
      let k = a.i * a.t.n + c.loop-j.j in (k < most_cells) × (k < length a.t.table.now)
  old_here =
      let p = c.requires in
      old_place c.args.t.fit p.0 c.loop-j-test.true

  new_here :
      let a = c.args in
      let k = a.i * (a.t.n + 1) + c.loop-j.j in (k < most_cells) × (k < length a.t.new.now)
  new_here =
      let p = c.requires in
      new_place c.args.t.fit (omega (arith, p.0)) (omega (arith, c.loop-j-test.true))

pub overflow_mul-old_row : goal.overflow_mul-old_row
overflow_mul-old_row c = omega (arith, first (goal.at.overflow_mul-old_row c).Start)

pub overflow_add-new_row : goal.overflow_add-new_row
overflow_add-new_row c = omega (arith, c.args.t.fit.few)

pub overflow_mul-new_row : goal.overflow_mul-new_row
overflow_mul-new_row c = omega (arith, new_first (goal.at.overflow_mul-new_row c).Start)

pub loop-j-init : goal.loop-j-init
loop-j-init c = (row_begun, row_begun)

pub offset_bounds-classes-j : goal.offset_bounds-classes-j
offset_bounds-classes-j c = omega (arith, (old_here c).0)

pub bounds-classes-j : goal.bounds-classes-j
bounds-classes-j c = omega (arith, c.args.t.fit.few)

pub overflow_add-cell : goal.overflow_add-cell
overflow_add-cell c = omega (arith, (new_here (goal.at.overflow_add-cell c).In-loop-j).0)

pub offset_bounds-t-new_row : goal.offset_bounds-t-new_row
offset_bounds-t-new_row c = omega (arith, (new_here (goal.at.offset_bounds-t-new_row c).In-loop-j).0)

pub bounds-t-new_row : goal.bounds-t-new_row
bounds-t-new_row c = (new_here (goal.at.bounds-t-new_row c).In-loop-j).1

pub overflow_add-count : goal.overflow_add-count
overflow_add-count c = omega (arith, (old_here (goal.at.overflow_add-count c).In-loop-j).0)

pub offset_bounds-t-old_row : goal.offset_bounds-t-old_row
offset_bounds-t-old_row c = omega (arith, (old_here (goal.at.offset_bounds-t-old_row c).In-loop-j).0)

pub bounds-t-old_row : goal.bounds-t-old_row
bounds-t-old_row c = (old_here (goal.at.bounds-t-old_row c).In-loop-j).1

pub overflow_mul-scale : goal.overflow_mul-scale
overflow_mul-scale c =
    let k = c.args.i * c.args.t.n + c.loop-j.j in
    rw c.requires.1 (omega (arith, rw add-zero at (scaled_small c.args.t.fit k 0 (omega arith))))

pub overflow_add-as_is : goal.overflow_add-as_is
overflow_add-as_is c =
    omega (
      arith,
      c.where_equal.ensures.1,
      c.apart.ensures.1,
      c.from-as_is.ensures,
      c.loop-j.invariant.0.small,
      c.args.t.fit.few,
    )

pub overflow_add-count-in-loop-j : goal.overflow_add-count-in-loop-j
overflow_add-count-in-loop-j c =
    let k = c.args.i * c.args.t.n + c.loop-j.j in
    omega (arith, c.args.t.fit.small k, c.requires.2)

pub overflow_mul-scale-in-loop-j : goal.overflow_mul-scale-in-loop-j
overflow_mul-scale-in-loop-j c =
    let k = c.args.i * c.args.t.n + c.loop-j.j in
    rw c.requires.1 (omega (arith, scaled_small c.args.t.fit k c.args.more c.requires.2))

pub overflow_add-larger : goal.overflow_add-larger
overflow_add-larger c =
    omega (
      arith,
      c.where_equal-in-loop-j.ensures.1,
      c.apart-in-loop-j.ensures.1,
      c.from-larger.ensures,
      c.loop-j.invariant.1.small,
      c.args.t.fit.few,
    )

pub loop-j-preserved : goal.loop-j-preserved
loop-j-preserved c = (
  rw c.from-as_is.ensures (row_more c.loop-j.invariant.0 c.where_equal.ensures.0 c.where_equal.ensures.1
      (unfold cell in c.apart.ensures.0 ∙ rw add-zero) c.apart.ensures.1),
  rw c.from-larger.ensures (row_more c.loop-j.invariant.1 c.where_equal-in-loop-j.ensures.0
      c.where_equal-in-loop-j.ensures.1
      (unfold cell in c.apart-in-loop-j.ensures.0) c.apart-in-loop-j.ensures.1),
)

pub returns : goal.returns
returns c =
    let l = c.loop-j in
    let e : l.j ≡ c.args.t.n = omega arith in
    (rw e at l.invariant.0, rw e at l.invariant.1)
