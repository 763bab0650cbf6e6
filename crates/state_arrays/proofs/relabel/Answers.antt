-- `state_arrays::relabel` meets its contract: the test of the code is that of `relabelled`.
use borrow.Author.Tests.{eq-eqb, ne_eqb}
use Rattle.state_arrays.specs.inner.Merged.{relabelled}
use Rattle.state_arrays.proofs.relabel.Goals as goal

pub returns-then-label-b : goal.returns-then-label-b
unfolding relabelled
returns-then-label-b c = rw (eq-eqb _ _ c.if-label-b.true)

pub returns-else-label-b : goal.returns-else-label-b
unfolding relabelled
returns-else-label-b c = rw (ne_eqb _ _ c.if-label-b.false)
