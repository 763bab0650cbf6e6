-- `state_arrays::grow` meets its contract: the tests of the code are those of `growth`.
use borrow.Author.Tests.{eq-eqb, ne_eqb}
use Rattle.state_arrays.specs.inner.Merged.{growth}
use Rattle.state_arrays.proofs.grow.Goals as goal

pub returns-then-label-a : goal.returns-then-label-a
unfolding growth
returns-then-label-a c = rw (eq-eqb _ _ c.if-label-a.true)

pub returns-then-label-b : goal.returns-then-label-b
unfolding growth
returns-then-label-b c = rw (ne_eqb _ _ c.if-label-a.false, eq-eqb _ _ c.if-label-b.true)

pub returns-else-label-b : goal.returns-else-label-b
unfolding growth
returns-else-label-b c = rw (ne_eqb _ _ c.if-label-a.false, ne_eqb _ _ c.if-label-b.false)
