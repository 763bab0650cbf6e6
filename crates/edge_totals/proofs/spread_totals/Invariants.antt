-- `edge_totals::spread_totals` meets its contract: the totals at the children of the rows from row k on are there.
use Rattle.edge_totals.specs.inner.Kept.{gains, losses, rows}
use Rattle.edge_totals.proofs.SpreadTotals.{SpreadFrom}
use Rattle.edge_totals.proofs.spread_totals.Given as goal

abbrev pub invariant-loop-k : goal.invariant-loop-k
invariant-loop-k l =
    SpreadFrom l.n l.listing (gains l.weights) (losses l.weights) (rows l.weights) l.initial.out l.out l.k
