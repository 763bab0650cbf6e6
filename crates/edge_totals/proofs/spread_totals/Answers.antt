-- `edge_totals::spread_totals` meets its contract: the totals at the children of the rows from row k on are there.
use mathlib.Core.Path.{◌≡◌, sym}
use mathlib.Core.List.{List}
use Prim.Native.Nat.{ℕ, ◌+◌, ◌-◌, ◌<◌}
use native.Mathlib.Omega.{arith}
use lib.ListN.{get_or, length-set}
use Rattle.std.proofs.Math.ListN.{get_or-map}
use Rattle.edge_weights.specs.declared.Weight.{Weight}
use Rattle.listings.proofs.Rows.{RowOf, row_read}
use Rattle.edge_totals.specs.inner.Kept.{gains, losses, rows, unweighed}
use Rattle.edge_totals.proofs.SpreadTotals.{SpreadFrom, spread_begun, move_fits, spread_more, spread_all}
use Rattle.edge_totals.proofs.spread_totals.Goals.{After-row_at-r, In-loop-k}
use Rattle.edge_totals.proofs.spread_totals.Goals as goal

-- the gaps in the row of leaf n, entry by entry
row_at : (ws : List Weight) (e : ℕ) → (get_or ws e unweighed).row ≡ get_or (rows ws) e 0
row_at ws e = sym (get_or-map (λ w. w.row) ws e unweighed)

-- the row before row k
module _ (c : In-loop-k) where
  this_row : c.loop-k.k - 1 < c.args.n - 2
  this_row = omega arith

  from_next :
      let a = c.args in
      SpreadFrom a.n a.listing.now (gains a.weights.now) (losses a.weights.now) (rows a.weights.now) a.out.now
      c.loop-k.out (c.loop-k.k - 1 + 1)
  from_next = let e : c.loop-k.k - 1 + 1 ≡ c.loop-k.k = omega arith in rw e c.loop-k.invariant

the_row :
    (c : After-row_at-r)
    → (let a = c.args in
    RowOf a.n a.listing.now (c.loop-k.k - 1) c.row_at-r.result)
the_row c =
    let p = c.requires in
    row_read _ _ p.count p.keeps _ (this_row (goal.at.overflow_add-above c).In-loop-k) c.row_at-r.ensures

pub move_to-requires : goal.move_to-requires
move_to-requires c =
    let p = c.requires in
    rw (row_at, (the_row (goal.at.move_to-requires c).After-row_at-r).first_is, c.loop-k.invariant.long)
    (move_fits _ _ p.count p.keeps (this_row (goal.at.move_to-requires c).In-loop-k) p.room
    (from_next (goal.at.move_to-requires c).In-loop-k) p _
    (omega (arith, this_row (goal.at.move_to-requires c).In-loop-k))
    (p.moves.first _ (this_row (goal.at.move_to-requires c).In-loop-k)))

pub move_to-requires-in-loop-k : goal.move_to-requires-in-loop-k
move_to-requires-in-loop-k c =
    let p = c.requires in
    rw (
      row_at,
      (the_row (goal.at.move_to-requires-in-loop-k c).After-row_at-r).second_is,
      c.move_to.ensures,
      length-set,
      c.loop-k.invariant.long,
    )
    (move_fits _ _ p.count p.keeps (this_row (goal.at.move_to-requires-in-loop-k c).In-loop-k) p.room
    (from_next (goal.at.move_to-requires-in-loop-k c).In-loop-k) p _
    (omega (arith, this_row (goal.at.move_to-requires-in-loop-k c).In-loop-k))
    (p.moves.second _ (this_row (goal.at.move_to-requires-in-loop-k c).In-loop-k)))

pub loop-k-preserved : goal.loop-k-preserved
loop-k-preserved c =
    let p = c.requires in
    let r = the_row (goal.at.loop-k-preserved c).After-row_at-r in
    rw (c.move_to-in-loop-k.ensures, c.move_to.ensures, row_at, r.first_is, r.second_is)
    (spread_more _ _ p.count p.keeps (this_row (goal.at.loop-k-preserved c).In-loop-k) p.room
    (from_next (goal.at.loop-k-preserved c).In-loop-k))

pub returns : goal.returns
returns c =
    let p = c.requires in
    spread_all _ _ p.count p.keeps (omega arith) p.room c.loop-k.invariant

pub loop-k-init : goal.loop-k-init
loop-k-init c = spread_begun _ _ c.requires.count c.requires.keeps

pub overflow_add-above : goal.overflow_add-above
overflow_add-above c = omega (arith, this_row (goal.at.overflow_add-above c).In-loop-k, c.requires.count)

pub overflow_sub-above : goal.overflow_sub-above
overflow_sub-above c = omega (arith, c.requires.count)

pub offset_bounds-out-n : goal.offset_bounds-out-n
offset_bounds-out-n c = omega (arith, this_row (goal.at.offset_bounds-out-n c).In-loop-k, c.requires.count)

pub bounds-out-n : goal.bounds-out-n
bounds-out-n c =
    let p = c.requires in
    omega (arith, this_row (goal.at.bounds-out-n c).In-loop-k, p.count, p.room, c.loop-k.invariant.long)

pub overflow_add-row : goal.overflow_add-row
overflow_add-row c = omega (arith, this_row (goal.at.overflow_add-row c).In-loop-k, c.requires.count)

pub shape_of-out : goal.shape_of-out
shape_of-out c = c.loop-k.invariant.long
