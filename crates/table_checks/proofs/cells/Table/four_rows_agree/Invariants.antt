-- `Table::four_rows_agree` meets its contract: no more cells agree than are looked at, and where as
-- many do, all do.
use mathlib.Core.Path.{◌≡◌}
use Prim.Native.Nat.{ℕ, ◌+◌, ◌-◌, ◌*◌, ◌≤◌, ◌<◌}
use Rattle.table_checks.specs.inner.Searches.{FourAgree}
use Rattle.table_checks.proofs.cells.Table.four_rows_agree.Given as goal

abbrev pub invariant-loop-leaf : goal.invariant-loop-leaf
invariant-loop-leaf l =
    (l.right ≤ 4 * (l.leaf - (l.i + 1)))
    × (l.right ≡ 4 * (l.leaf - (l.i + 1)) → (b : ℕ) → l.i < b → b < l.leaf → FourAgree l.self.n l.self.cells.now l.i b)
