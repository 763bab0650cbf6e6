-- `block_gaps::add_block` meets its contract: the gaps of the rows before row i are added up.
use mathlib.Core.Path.{◌≡◌}
use native.Mathlib.Omega.{arith}
use Rattle.block_gaps.proofs.AddedGaps.{rows_begun, rows_more, block_made}
use Rattle.block_gaps.proofs.add_block.Goals as goal

pub add_row_of_class-row-requires : goal.add_row_of_class-row-requires
add_row_of_class-row-requires c =
    (c.loop-i-test.true, c.requires)

pub overflow_add-as_is : goal.overflow_add-as_is
overflow_add-as_is c =
    omega (
      arith,
      c.loop-i.invariant.0.small,
      c.add_row_of_class-row.ensures.0.small,
      c.args.t.fit.few,
    )

pub overflow_add-larger : goal.overflow_add-larger
overflow_add-larger c =
    omega (
      arith,
      c.loop-i.invariant.1.small,
      c.add_row_of_class-row.ensures.1.small,
      c.args.t.fit.few,
    )

pub loop-i-preserved : goal.loop-i-preserved
loop-i-preserved c =
    let inv = c.loop-i.invariant in
    let row = c.add_row_of_class-row.ensures in
    (rows_more inv.0 row.0, rows_more inv.1 row.1)

pub returns : goal.returns
returns c =
    let l = c.loop-i in
    let e : l.i ≡ c.args.t.n = omega arith in
    record {
      as_is = block_made c.args.t.fit.few e l.invariant.0;
      larger = block_made c.args.t.fit.few e l.invariant.1;
    }

pub loop-i-init : goal.loop-i-init
loop-i-init c = (rows_begun, rows_begun)
