-- `Table::four_rows_agree` meets its contract: no more cells agree than are looked at, and where as
-- many do, all do.
use mathlib.Core.Path.{◌≡◌}
use Prim.Native.Nat.{◌+◌, ◌-◌, ◌*◌}
use native.Mathlib.Omega.{arith}
use borrow.Author.Tests.{eqb-true}
use Rattle.table_checks.proofs.Searches.{four_agree}
use Rattle.table_checks.proofs.cells.Table.four_rows_agree.Goals as goal

pub returns : goal.returns
returns c = λ h.
    let l = c.loop-leaf in
    let all : l.right ≡ 4 * (c.args.self.n - (c.args.i + 1)) = eqb-true _ _ h in
    four_agree _ _ _ c.requires (λ j low high. l.invariant.1 (omega arith) j low (omega arith))
