-- `leaf_orders::children_of` meets its contract: no sum of what branches off is larger than P(n).
use Prim.Native.Nat.{◌≤◌}
use native.Mathlib.Omega.{arith}
use lib.ListN.{get_or}
use Rattle.limits.specs.Limits.{most_leaves}
use Rattle.pair_counts.specs.Pairs.{P}
use Rattle.leaf_orders.specs.inner.LeafOrders.{most_sum}
use Rattle.leaf_orders.proofs.Rows.{SizesRead, sizes_read, pairs_small, told}
use Rattle.leaf_orders.proofs.children_of.Goals.{After-row_at-r}
use Rattle.leaf_orders.proofs.children_of.Goals as goal

-- the row is read: the sizes of its children are known; and the leaves are few, and so are their pairs
known :
    (c : After-row_at-r)
    → (let a = c.args in
    let r = c.row_at-r.result in
    SizesRead a.n a.listing.now a.sizes.now a.c a.at c.requires.0 c.requires.1 c.requires.2 c.requires.3
    r (get_or a.sizes.now r.first 0) (get_or a.sizes.now r.second 0) × (a.n ≤ most_leaves)
    × (P a.n ≤ most_sum))
known c = (
  sizes_read _ _ _ _ _ c.requires.0 c.requires.1 c.requires.2 c.requires.3 _ c.row_at-r.ensures,
  c.requires.0.leaf_count.1,
  pairs_small c.args.n c.requires.0.leaf_count.1,
)

pub offset_bounds-sizes-r : goal.offset_bounds-sizes-r
offset_bounds-sizes-r c = omega (arith, known c)

pub bounds-sizes-r : goal.bounds-sizes-r
bounds-sizes-r c = omega (arith, known (goal.at.bounds-sizes-r c).After-row_at-r)

pub offset_bounds-sizes-r-2 : goal.offset_bounds-sizes-r-2
offset_bounds-sizes-r-2 c = omega (arith, known (goal.at.offset_bounds-sizes-r-2 c).After-row_at-r)

pub bounds-sizes-r-2 : goal.bounds-sizes-r-2
bounds-sizes-r-2 c = omega (arith, known (goal.at.bounds-sizes-r-2 c).After-row_at-r)

pub pairs-requires : goal.pairs-requires
pairs-requires c = omega (arith, known (goal.at.pairs-requires c).After-row_at-r)

pub overflow_add-left : goal.overflow_add-left
overflow_add-left c = omega (arith, known (goal.at.overflow_add-left c).After-row_at-r)

pub pairs-requires-2 : goal.pairs-requires-2
pairs-requires-2 c = omega (arith, known (goal.at.pairs-requires-2 c).After-row_at-r)

pub overflow_add-right : goal.overflow_add-right
overflow_add-right c = omega (arith, known (goal.at.overflow_add-right c).After-row_at-r)

pub overflow_add-width : goal.overflow_add-width
overflow_add-width c = omega (arith, known (goal.at.overflow_add-width c).After-row_at-r)

pub overflow_sub-n : goal.overflow_sub-n
overflow_sub-n c = omega (arith, known (goal.at.overflow_sub-n c).After-row_at-r)

pub pairs-rest-requires : goal.pairs-rest-requires
pairs-rest-requires c = omega (arith, known (goal.at.pairs-rest-requires c).After-row_at-r)

pub overflow_add-depth : goal.overflow_add-depth
overflow_add-depth c = omega (arith, known (goal.at.overflow_add-depth c).After-row_at-r)

pub overflow_sub-depth : goal.overflow_sub-depth
overflow_sub-depth c = omega (arith, known (goal.at.overflow_sub-depth c).After-row_at-r)

pub overflow_add-depth-2 : goal.overflow_add-depth-2
overflow_add-depth-2 c = omega (arith, known (goal.at.overflow_add-depth-2 c).After-row_at-r)

pub returns : goal.returns
returns c =
    told _ _ _ _ _ c.requires.0 c.requires.1 c.requires.2 c.requires.3 (known (goal.at.returns c).After-row_at-r).0
    (omega arith) (omega arith)
    (omega arith)

pub overflow_add-result : goal.overflow_add-result
overflow_add-result c = omega (arith, known (goal.at.overflow_add-result c).After-row_at-r)
