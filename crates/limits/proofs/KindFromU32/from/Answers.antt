-- `Kind::from` meets its contract: 0 names counts, and nothing else does.
use borrow.Author.Tests.{eq-eqb, ne_eqb}
use Rattle.limits.specs.Limits.{kind_of}
use Rattle.limits.proofs.KindFromU32.from.Goals as goal

pub returns-then-poll-eq0 : goal.returns-then-poll-eq0
unfolding kind_of
returns-then-poll-eq0 c = rw (eq-eqb _ 0 c.if-poll-eq0.true)

pub returns-else-poll-eq0 : goal.returns-else-poll-eq0
unfolding kind_of
returns-else-poll-eq0 c = rw (ne_eqb _ 0 c.if-poll-eq0.false)
