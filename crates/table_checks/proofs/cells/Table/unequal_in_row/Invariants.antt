-- `Table::unequal_in_row` meets its contract: what is found from j on is what is found from the
-- start of row i.
use mathlib.Core.Path.{◌≡◌}
use Prim.Native.Nat.{◌+◌, ◌*◌}
use Rattle.table_checks.specs.inner.Searches.{unequal_from}
use Rattle.table_checks.proofs.cells.Table.unequal_in_row.Given as goal

abbrev pub invariant-loop-j : goal.invariant-loop-j
invariant-loop-j l =
    let n = l.self.n in
    let t = l.self.cells.now in
    unequal_from n t (l.i * n) ≡ unequal_from n t (l.i * n + l.j)
