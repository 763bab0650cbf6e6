-- `Rerooting::finish` meets its contract: what is written and what is left to write stay the listing, and nothing else
-- changes.
use mathlib.Core.Path.{◌≡◌}
use Rattle.rerooted_rows.proofs.Chains.{ChainWritten}
use Rattle.rerooted_rows.proofs.Rerooting.finish.Given as goal

abbrev pub invariant-loop-r : goal.invariant-loop-r
invariant-loop-r l =
    (l.self.chain ≡ l.initial.self.chain) × (l.self.made ≡ l.initial.self.made)
    × (l.self.chained ≡ l.initial.self.chained) × ChainWritten l.n l.initial.self l.self.rows l.end l.r l.above
