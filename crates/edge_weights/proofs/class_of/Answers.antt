-- `edge_weights::class_of` meets its contract, by its three cases.
use borrow.Author.Tests.{ne_eqb}
use Rattle.base.proofs.Bools.{eqb_same}
use Rattle.edge_weights.specs.inner.Classes.{class_of}
use Rattle.edge_weights.proofs.class_of.Goals as goal

pub returns-then-label-a : goal.returns-then-label-a
unfolding class_of
returns-then-label-a c = rw (c.if-label-a.true, eqb_same c.args.a)

pub returns-then-label-b : goal.returns-then-label-b
unfolding class_of
returns-then-label-b c =
    rw (ne_eqb _ _ c.if-label-a.false, c.if-label-b.true, eqb_same c.args.b)

pub returns-else-label-b : goal.returns-else-label-b
unfolding class_of
returns-else-label-b c = rw (ne_eqb _ _ c.if-label-a.false, ne_eqb _ _ c.if-label-b.false)
