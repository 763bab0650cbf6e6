-- `change_checks::is_edge` meets its contract.
use borrow.Author.Tests.{le-leb, lt-leb}
use Rattle.grafted_trees.specs.Grafts.{names_edge}
use Rattle.change_checks.proofs.is_edge.Goals as goal

pub returns-then-e-ge1 : goal.returns-then-e-ge1
unfolding names_edge
returns-then-e-ge1 c = rw (le-leb 1 c.args.e c.if-e-ge1.true)

pub returns-else-e-ge1 : goal.returns-else-e-ge1
unfolding names_edge
returns-else-e-ge1 c = rw (lt-leb 1 c.args.e c.if-e-ge1.false)
