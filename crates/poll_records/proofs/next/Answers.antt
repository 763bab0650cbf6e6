-- `poll_records::next` meets its contract: its tests are those of `next_of`, one after the other.
use borrow.Author.Tests.{lt-ltb, le-ltb}
use Rattle.poll_rules.specs.inner.Quartets.{next_of}
use Rattle.poll_records.proofs.next.Goals as goal

pub returns-then-d-n : goal.returns-then-d-n
unfolding next_of
returns-then-d-n c = simp (lt-ltb _ _ c.if-d-n.true)

pub returns-then-c-n : goal.returns-then-c-n
unfolding next_of
returns-then-c-n c = simp (le-ltb _ _ c.if-d-n.false, lt-ltb _ _ c.if-c-n.true)

pub returns-then-b-n : goal.returns-then-b-n
unfolding next_of
returns-then-b-n c =
    simp (le-ltb _ _ c.if-d-n.false, le-ltb _ _ c.if-c-n.false, lt-ltb _ _ c.if-b-n.true)

pub returns : goal.returns
unfolding next_of
returns c =
    simp (le-ltb _ _ c.if-d-n.false, le-ltb _ _ c.if-c-n.false, le-ltb _ _ c.if-b-n.false)
