-- `leaf_orders::count_leaves` meets its contract: before row k the sizes under the numbers below n + k are there.
use mathlib.Core.Path.{refl, ◌∙◌}
use Prim.Native.Nat.{ℕ, ◌+◌}
use native.Mathlib.Omega.{arith}
use lib.ListN.{replicate, length-set, get_or-replicate}
use Rattle.limits.specs.Limits.{most_nodes}
use Rattle.trees.specs.Trees.{size}
use Rattle.listings.proofs.Rows.{RowOf, row_read}
use Rattle.listings.proofs.Entries.{seen_leaves, seen_node}
use Rattle.leaf_orders.proofs.Rows.{sizes_add, size_le}
use Rattle.leaf_orders.proofs.count_leaves.Goals.{After-row_at-r}
use Rattle.leaf_orders.proofs.count_leaves.Goals as goal

-- the row of this turn
this :
    (c : After-row_at-r)
    → let a = c.args in
    RowOf a.n a.listing.now c.loop-k.k c.row_at-r.result
this c =
    row_read _ _ c.requires.0 c.requires.1 _ (omega arith) c.row_at-r.ensures

pub loop-k-init : goal.loop-k-init
loop-k-init c = rw c.requires.2 (
  refl,
  seen_leaves size 0 c.args.n c.args.listing.now (replicate most_nodes 1) (λ i li.
      get_or-replicate {A = ℕ} most_nodes i 1 0 (omega (arith, c.requires.0.1)) ∙ (unfold size in refl)),
)

pub offset_bounds-sizes-r : goal.offset_bounds-sizes-r
offset_bounds-sizes-r c = omega (arith, (this c).first_before, c.requires.0.1)

pub bounds-sizes-r : goal.bounds-sizes-r
bounds-sizes-r c = omega (arith, (this (goal.at.bounds-sizes-r c).After-row_at-r).first_before, c.requires.0.1)

pub offset_bounds-sizes-r-in-loop-k : goal.offset_bounds-sizes-r-in-loop-k
offset_bounds-sizes-r-in-loop-k c =
    omega (arith, (this (goal.at.offset_bounds-sizes-r-in-loop-k c).After-row_at-r).second_before, c.requires.0.1)

pub bounds-sizes-r-in-loop-k : goal.bounds-sizes-r-in-loop-k
bounds-sizes-r-in-loop-k c =
    omega (arith, (this (goal.at.bounds-sizes-r-in-loop-k c).After-row_at-r).second_before, c.requires.0.1)

pub overflow_add-sizes : goal.overflow_add-sizes
overflow_add-sizes c =
    let i = c.loop-k in
    rw (sizes_add (this (goal.at.overflow_add-sizes c).After-row_at-r) i.sizes i.invariant.1)
    (omega (
      arith,
      size_le c.args.n c.args.listing.now (c.args.n + i.k) c.requires.0 c.requires.1 (omega arith),
      c.requires.0.1,
    ))

pub loop-k-preserved : goal.loop-k-preserved
loop-k-preserved c =
    let i = c.loop-k in
    let a = c.args in (
      simp length-set i.invariant.0,
      seen_node size 0 a.n a.listing.now i.sizes i.k _ (omega arith)
          (sizes_add (this (goal.at.loop-k-preserved c).After-row_at-r) i.sizes i.invariant.1) i.invariant.1,
    )

pub returns : goal.returns
returns c = λ k h. c.loop-k.invariant.1 k (omega arith)
