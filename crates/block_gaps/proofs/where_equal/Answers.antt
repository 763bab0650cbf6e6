-- `block_gaps::where_equal` meets its contract, by the two cases of the test.
use borrow.Author.Tests.{ne_eqb}
use native.Mathlib.Omega.{arith}
use Rattle.base.proofs.Bools.{eqb_same}
use Rattle.block_gaps.proofs.where_equal.Goals as goal

pub returns-then-x-y : goal.returns-then-x-y
returns-then-x-y c = (rw (c.if-x-y.true, eqb_same c.args.y), omega arith)

pub returns-else-x-y : goal.returns-else-x-y
returns-else-x-y c = (rw (ne_eqb c.args.x c.args.y c.if-x-y.false), omega arith)
