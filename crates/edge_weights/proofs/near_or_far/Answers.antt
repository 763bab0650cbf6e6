-- `edge_weights::near_or_far` meets its contract, by the two cases of the test.
use borrow.Author.Tests.{ne_eqb}
use Rattle.base.proofs.Bools.{eqb_same}
use Rattle.edge_weights.specs.inner.NewRows.{count_at}
use Rattle.edge_weights.proofs.near_or_far.Goals as goal

pub returns-then-label-f : goal.returns-then-label-f
unfolding count_at
returns-then-label-f c = rw (c.if-label-f.true, eqb_same c.args.f)

pub returns-else-label-f : goal.returns-else-label-f
unfolding count_at
returns-else-label-f c = rw (ne_eqb _ _ c.if-label-f.false)
