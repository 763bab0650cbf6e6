-- `standard_listings::least_of` meets its contract.
use borrow.Author.Tests.{lt-ltb, le-ltb}
use Rattle.standard_listings.specs.inner.Standardising.{known_least}
use Rattle.standard_listings.proofs.least_of.Goals as goal

pub returns-then-x-n : goal.returns-then-x-n
unfolding known_least
returns-then-x-n c = rw (lt-ltb _ _ c.if-x-n.true)

pub returns : goal.returns
unfolding known_least
returns c = rw (le-ltb _ _ c.if-x-n.false)
