-- `change_checks::is_there` meets its contract: a graft names an edge, and a prune a leaf.
use Rattle.change_checks.proofs.is_there.Goals as goal

pub returns-in-Graft : goal.returns-in-Graft
returns-in-Graft c = rw c.in-Graft.is c.is_edge.ensures

pub returns-in-Prune : goal.returns-in-Prune
returns-in-Prune c = rw c.in-Prune.is
