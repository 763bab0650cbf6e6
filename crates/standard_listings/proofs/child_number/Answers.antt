-- `standard_listings::child_number` meets its contract: its test is the definition's, and no number reaches 256.
use borrow.Author.Tests.{lt-ltb, le-ltb}
use Rattle.standard_listings.specs.inner.Standardising.{child_number}
use Rattle.standard_listings.proofs.child_number.Goals as goal

pub returns-then-x-n : goal.returns-then-x-n
unfolding child_number
returns-then-x-n c = rw (lt-ltb c.args.x c.args.n c.if-x-n.true)

pub returns : goal.returns
unfolding child_number
returns c = rw (le-ltb c.args.x c.args.n c.if-x-n.false)
