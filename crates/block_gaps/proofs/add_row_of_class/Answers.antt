-- `block_gaps::add_row_of_class` meets its contract: a row of another class adds nothing; where the scale is 1, it is
-- the same row.
use native.Mathlib.Omega.{arith}
use borrow.Author.Tests.{eq-eqb, ne_eqb}
use Rattle.block_gaps.proofs.AddedGaps.{row_of_class, row_of_other}
use Rattle.block_gaps.proofs.add_row_of_class.Goals as goal

pub returns-then-classes-i : goal.returns-then-classes-i
returns-then-classes-i c = let other = ne_eqb _ _ c.if-classes-i.true in (row_of_other other, row_of_other other)

pub returns-then-t-eq1 : goal.returns-then-t-eq1
returns-then-t-eq1 c =
    let same = eq-eqb _ _ c.if-classes-i.false in
    let few = c.args.t.fit.few in
    rw c.if-t-eq1.true
    (row_of_class few same c.add_row.ensures.0, row_of_class few same c.add_row.ensures.1)

pub returns : goal.returns
returns c =
    let same = eq-eqb _ _ c.if-classes-i.false in
    let few = c.args.t.fit.few in
    (row_of_class few same c.add_row-2.ensures.0, row_of_class few same c.add_row-2.ensures.1)

pub bounds-classes-i : goal.bounds-classes-i
bounds-classes-i c = omega (arith, c.args.t.fit.few, c.requires.0)
