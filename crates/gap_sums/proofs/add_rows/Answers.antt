-- `gap_sums::add_rows` meets its contract. The loop's invariant: each column is the sum over the rows passed.
use mathlib.Core.Path.{◌≡◌, refl, ◌∙◌}
use native.Mathlib.Omega.{arith}
use lib.ListN.{get_or}
use Rattle.base.specs.Numbers.{sum_below}
use Rattle.gap_sums.specs.inner.GapSums.{leaf_gaps}
use Rattle.gap_sums.proofs.Columns.{column_small, sum_turn}
use Rattle.gap_sums.proofs.add_rows.Goals as goal

pub loop-x-init : goal.loop-x-init
unfolding sum_below
loop-x-init c = (omega arith, c.requires.4, c.requires.5)

pub add_row_of-requires : goal.add_row_of-requires
add_row_of-requires c =
    let l = c.loop-x in
    let a = c.args in (
      c.requires.0,
      c.requires.1,
      c.requires.2,
      c.requires.3,
      omega arith,
      record {
        long = l.invariant.1;
        small = λ y ly. rw (l.invariant.2 y ly)
            (column_small a.n a.table.now a.arrays.now.label a.arrays.now.m a.a (get_or a.due.now y 0) y l.x
            (λ k. omega (arith, c.shared_slice_known-1.given k)) c.requires.2 (c.requires.3 y ly) l.invariant.0
            c.requires.0);
      },
    )

pub loop-x-preserved : goal.loop-x-preserved
loop-x-preserved c =
    let l = c.loop-x in (
      omega arith,
      c.add_row_of.ensures.0,
      λ y ly.
          c.add_row_of.ensures.1 y ly ∙ sum_turn _ l.x (l.invariant.2 y ly) refl,
    )

pub returns : goal.returns
unfolding leaf_gaps
returns c =
    let l = c.loop-x in
    let a = c.args in
    let e : l.x ≡ a.n = omega arith in
    record {
      few = record {
        long = l.invariant.1;
        small = λ y ly. rw (l.invariant.2 y ly)
            (column_small a.n a.table.now a.arrays.now.label a.arrays.now.m a.a (get_or a.due.now y 0) y l.x
            (λ k. omega (arith, c.shared_slice_known-1.given k)) c.requires.2 (c.requires.3 y ly)
            l.invariant.0 c.requires.0);
      };
      found = λ y ly d. rw e at (l.invariant.2 y ly);
    }
