-- `edge_weights::weigh_row` meets its contract: the leaves of the two children are those of two classes.
use mathlib.Core.Path.{◌≡◌}
use Prim.Native.Nat.{◌+◌, ◌*◌, ◌≤◌}
use native.Mathlib.Omega.{arith}
use lib.ListN.{get_or}
use Rattle.limits.specs.Limits.{most_leaves}
use Rattle.trees.specs.Listings.{subtree_at}
use Rattle.listings.proofs.Rows.{RowOf, row_read}
use Rattle.edge_weights.specs.inner.NewRows.{RowGapFits}
use Rattle.edge_weights.specs.inner.Rows.{Held}
use Rattle.edge_weights.proofs.RowsJoined.{first_held, second_held, merge_ready}
use Rattle.edge_weights.proofs.RowGaps.{own_is_table, child_edge, row_fits}
use Rattle.edge_weights.proofs.RowWeights.{weighed_first, weighed_second}
use Rattle.edge_weights.proofs.weigh_row.Goals.{After-row_at-r}
use Rattle.edge_weights.proofs.weigh_row.Goals as goal

-- the row that is read
the_row :
    (c : After-row_at-r)
    → let a = c.args in RowOf a.t.n a.rows.now a.k c.row_at-r.result
the_row c =
    let p = c.requires in
    row_read _ _ p.0.count p.0.keeps _ p.2 c.row_at-r.ensures

-- the labels of its two children, and their subtrees
module _ (c : After-row_at-r) where
  first_label :
      let a = c.args in
      (get_or c.args.firsts.now c.row_at-r.result.first 0) ≡ get_or a.firsts.now (get_or a.rows.now (2 * a.k) 0) 0
  first_label = rw (the_row c).first_is

  second_label :
      let a = c.args in
      (get_or c.args.firsts.now c.row_at-r.result.second 0) ≡ get_or a.firsts.now (get_or a.rows.now (2 * a.k + 1) 0) 0
  second_label = rw (the_row c).second_is

  first_is :
      let a = c.args in
      Held a.t.n a.t.scale a.label.now a.m.now a.sizes.now (get_or c.args.firsts.now c.row_at-r.result.first 0)
      (subtree_at a.t.n a.rows.now (get_or a.rows.now (2 * a.k) 0))
  first_is =
      let p = c.requires in
      rw first_label (first_held p.0 p.2 p.1)

  second_is :
      let a = c.args in
      Held a.t.n a.t.scale a.label.now a.m.now a.sizes.now (get_or c.args.firsts.now c.row_at-r.result.second 0)
      (subtree_at a.t.n a.rows.now (get_or a.rows.now (2 * a.k + 1) 0))
  second_is =
      let p = c.requires in
      rw second_label (second_held p.0 p.2 p.1)

  few : c.args.t.n ≤ most_leaves
  few = c.requires.0.count.1

  -- they have no more leaves than the tree
  both_fit :
      let a = c.args in
      get_or a.sizes.now (get_or c.args.firsts.now c.row_at-r.result.first 0) 0
      + get_or a.sizes.now (get_or c.args.firsts.now c.row_at-r.result.second 0) 0
      ≤ a.t.n
  both_fit =
      let p = c.requires in
      rw (first_label, second_label) (merge_ready p.0 p.2 p.1).room

  -- what is asked of the row of the new leaf at each child's edge
  first_row :
      let a = c.args in
      RowGapFits a.t.n (get_or c.args.firsts.now c.row_at-r.result.first 0)
      (get_or a.sizes.now (get_or c.args.firsts.now c.row_at-r.result.first 0) 0) a.m.now a.p.now
  first_row =
      let p = c.requires in
      rw first_is.sized (row_fits p.0 _ (child_edge p.0 _ (omega (arith, p.2))) first_is p.1.small)

  second_row :
      let a = c.args in
      RowGapFits a.t.n (get_or c.args.firsts.now c.row_at-r.result.second 0)
      (get_or a.sizes.now (get_or c.args.firsts.now c.row_at-r.result.second 0) 0) a.m.now a.p.now
  second_row =
      let p = c.requires in
      rw second_is.sized (row_fits p.0 _ (child_edge p.0 _ (omega (arith, p.2))) second_is p.1.small)

pub bounds-firsts-i : goal.bounds-firsts-i
bounds-firsts-i c =
    let p = c.requires in
    omega (arith, (the_row (goal.at.bounds-firsts-i c).After-row_at-r).first_before, p.0.count, p.2)

pub bounds-firsts-j : goal.bounds-firsts-j
bounds-firsts-j c =
    let p = c.requires in
    omega (arith, (the_row (goal.at.bounds-firsts-j c).After-row_at-r).second_before, p.0.count, p.2)

pub block-between-requires : goal.block-between-requires
block-between-requires c =
    let p = c.requires in
    (omega (arith, p.0.count), own_is_table p.0, p.0.is_table)

pub weigh_child-first-requires : goal.weigh_child-first-requires
weigh_child-first-requires c =
    let p = c.requires in
    let between = c.block-between.ensures in (
      own_is_table p.0,
      p.0.is_table,
      both_fit (goal.at.weigh_child-first-requires c).After-row_at-r,
      first_row (goal.at.weigh_child-first-requires c).After-row_at-r,
      between.as_is.1,
      between.larger.1,
    )

pub weigh_child-second-requires : goal.weigh_child-second-requires
weigh_child-second-requires c =
    let p = c.requires in
    let between = c.block-between.ensures in (
      own_is_table p.0,
      p.0.is_table,
      omega (arith, both_fit (goal.at.weigh_child-second-requires c).After-row_at-r),
      second_row (goal.at.weigh_child-second-requires c).After-row_at-r,
      between.as_is.1,
      between.larger.1,
    )

pub returns : goal.returns
returns c =
    let p = c.requires in
    let own = (first_is (goal.at.returns c).After-row_at-r).sized in
    let other = (second_is (goal.at.returns c).After-row_at-r).sized in
    let a = first_label (goal.at.returns c).After-row_at-r in
    let b = second_label (goal.at.returns c).After-row_at-r in
    let classified = rw (a, b) at c.classify-classes.ensures in
    let block = c.block-between.ensures in
    let larger = rw (own, other) at block.larger.0 in
    let first = rw (own, a) at c.weigh_child-first.ensures in
    let second = rw (other, b) at c.weigh_child-second.ensures in
    record {
      first = weighed_first p.0 p.2 p.1 _ classified block.as_is.0 larger first;
      second = weighed_second p.0 p.2 p.1 _ classified block.as_is.0 larger second;
    }

pub offset_bounds-firsts-i : goal.offset_bounds-firsts-i
offset_bounds-firsts-i c =
    let p = c.requires in
    omega (arith, (the_row (goal.at.offset_bounds-firsts-i c).After-row_at-r).first_before, p.0.count, p.2)

pub offset_bounds-firsts-j : goal.offset_bounds-firsts-j
offset_bounds-firsts-j c =
    let p = c.requires in
    omega (arith, (the_row (goal.at.offset_bounds-firsts-j c).After-row_at-r).second_before, p.0.count, p.2)

pub offset_bounds-sizes-a : goal.offset_bounds-sizes-a
offset_bounds-sizes-a c =
    let r = (goal.at.offset_bounds-sizes-a c).After-row_at-r in omega (arith, (first_is r).below, few r)

pub bounds-sizes-a : goal.bounds-sizes-a
bounds-sizes-a c = omega (
  arith,
  (first_is (goal.at.bounds-sizes-a c).After-row_at-r).below,
  few (goal.at.bounds-sizes-a c).After-row_at-r,
)

pub offset_bounds-sizes-b : goal.offset_bounds-sizes-b
offset_bounds-sizes-b c = omega (
  arith,
  (second_is (goal.at.offset_bounds-sizes-b c).After-row_at-r).below,
  few (goal.at.offset_bounds-sizes-b c).After-row_at-r,
)

pub bounds-sizes-b : goal.bounds-sizes-b
bounds-sizes-b c = omega (
  arith,
  (second_is (goal.at.bounds-sizes-b c).After-row_at-r).below,
  few (goal.at.bounds-sizes-b c).After-row_at-r,
)

pub overflow_cast-a : goal.overflow_cast-a
overflow_cast-a c = omega (
  arith,
  (first_is (goal.at.overflow_cast-a c).After-row_at-r).below,
  few (goal.at.overflow_cast-a c).After-row_at-r,
)

pub overflow_cast-b : goal.overflow_cast-b
overflow_cast-b c = omega (
  arith,
  (second_is (goal.at.overflow_cast-b c).After-row_at-r).below,
  few (goal.at.overflow_cast-b c).After-row_at-r,
)

pub overflow_add-beyond : goal.overflow_add-beyond
overflow_add-beyond c = omega (arith, both_fit (goal.at.overflow_add-beyond c).After-row_at-r)

pub overflow_sub-beyond : goal.overflow_sub-beyond
overflow_sub-beyond c = omega (arith, both_fit (goal.at.overflow_sub-beyond c).After-row_at-r)
