-- `pairings::question::pairing_of` meets its contract: before row k the bits under every number below n + k are known,
-- and none of their edges shows a pairing.
use mathlib.Core.Path.{◌≡◌}
use mathlib.Core.List.{List}
use Prim.Native.Nat.{ℕ, ◌+◌}
use lib.ListN.{length}
use Rattle.limits.specs.Limits.{most_nodes}
use Rattle.trees.specs.Trees.{leaf}
use Rattle.base.proofs.Filling.{Known}
use Rattle.pairings.specs.inner.Sides.{asked_in}
use Rattle.pairings.proofs.Questions.{FourAsked}
use Rattle.pairings.proofs.Passing.{PassedNumbers}
use Rattle.pairings.proofs.question.pairing_of.Given as goal

abbrev pub invariant-loop-k : goal.invariant-loop-k
invariant-loop-k l =
    (length l.under ≡ most_nodes)
    × ((q : List ℕ) → Known (λ i. asked_in q (leaf i)) 0 l.initial.under l.n → FourAsked l.n q
    → PassedNumbers l.n l.listing q l.under (l.n + l.k))
