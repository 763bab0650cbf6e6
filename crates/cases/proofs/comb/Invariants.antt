-- `cases::comb` meets its contract: every write is inside the listing, which keeps its length.
use mathlib.Core.Path.{◌≡◌}
use lib.ListN.{length}
use Rattle.limits.specs.Limits.{most_numbers}
use Rattle.cases.proofs.comb.Given as goal

abbrev pub invariant-loop-k : goal.invariant-loop-k
invariant-loop-k l = length l.listing ≡ most_numbers
