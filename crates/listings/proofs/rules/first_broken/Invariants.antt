-- `listings::rules::first_broken` meets its contract: the rules from place p on, after the children before it, find
-- what they find from the start; and a number is marked exactly where it was named before.
use Rattle.listings.proofs.RulesByPlace.{PassedTo}
use Rattle.listings.proofs.rules.first_broken.Given as goal

abbrev pub invariant-loop-p : goal.invariant-loop-p
invariant-loop-p l = PassedTo l.n l.listing l.p l.named
