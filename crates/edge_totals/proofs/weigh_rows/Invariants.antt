-- `edge_totals::weigh_rows` meets its contract: the children of the rows before row k are weighed, and the arrays hold
-- the subtrees that are there before it.
use Rattle.edge_weights.specs.inner.Rows.{BeforeRow}
use Rattle.edge_totals.specs.inner.Kept.{gains, losses, rows, RowsWeighed}
use Rattle.edge_totals.proofs.weigh_rows.Given as goal

abbrev pub invariant-loop-k : goal.invariant-loop-k
invariant-loop-k l =
    BeforeRow l.t.n l.t.scale l.listing l.k l.arrays.label l.arrays.m l.arrays.sizes l.firsts
    × RowsWeighed l.t.n l.t.scale l.listing l.t.table.now l.t.new.now l.k (gains l.weights) (losses l.weights)
    (rows l.weights)
