-- `edge_weights::classify` meets its contract: the leaves before leaf j have their classes.
use mathlib.Core.Path.{◌≡◌}
use lib.ListN.{length}
use Rattle.limits.specs.Limits.{most_leaves}
use Rattle.edge_weights.specs.inner.Classes.{Classified}
use Rattle.edge_weights.proofs.classify.Given as goal

abbrev pub invariant-loop-j : goal.invariant-loop-j
invariant-loop-j l =
    (length l.classes ≡ most_leaves) × Classified l.j l.label l.a l.b l.classes
