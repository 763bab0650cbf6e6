-- `poll_sums::writing::write_table` meets its contract: after some turns the cells up to there are at the front of the
-- buffer.
use mathlib.Core.Path.{◌≡◌}
use mathlib.Core.List.{List}
use Prim.Native.Nat.{ℕ, ◌+◌, ◌*◌, ◌/◌, ◌%◌}
use Rattle.base.specs.Lists.{filled}
use Rattle.poll_sums.specs.inner.Sums.{mirrored_sum}
use Rattle.poll_sums.proofs.writing.write_table.Given as goal

-- the cells of the table, one after the other
abbrev pub table_cell : ℕ → List ℕ → ℕ → ℕ
table_cell n sums k = mirrored_sum n sums (k / n) (k % n)

abbrev pub invariant-loop-row : goal.invariant-loop-row
invariant-loop-row l = l.out ≡ filled (l.row * l.n) (table_cell l.n l.sums) l.fn.out

abbrev pub invariant-loop-column : goal.invariant-loop-column
invariant-loop-column l = l.out ≡ filled (l.row * l.n + l.column) (table_cell l.n l.sums) l.fn.out
