-- `eligible_pairs::row_of` meets its contract: rows stand one after the other.
use Rattle.eligible_pairs.proofs.Lent.{row_is}
use Rattle.eligible_pairs.proofs.row_of.Goals as goal

pub returns-clause-cells : goal.returns-clause-cells
returns-clause-cells c = λ y l. row_is c.args.n c.args.cells.now c.args.x y l
