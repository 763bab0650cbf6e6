-- `edge_weights::new_row_gap` meets its contract: the gaps before column i are added up.
use Rattle.edge_weights.specs.inner.NewRows.{RowGapAdded}
use Rattle.edge_weights.proofs.new_row_gap.Given as goal

abbrev pub invariant-loop-i : goal.invariant-loop-i
invariant-loop-i l = RowGapAdded l.t.n l.f l.size l.t.scale l.label l.m l.p l.t.table.now l.t.new.now l.i l.sum
