-- `change_checks::count_after` meets its contract: a graft adds a leaf, and a prune takes one away.
use Rattle.change_checks.proofs.count_after.Goals as goal

pub returns-in-Graft : goal.returns-in-Graft
returns-in-Graft c = rw c.in-Graft.is

pub returns-in-Prune : goal.returns-in-Prune
returns-in-Prune c = rw c.in-Prune.is
