-- `Table::unequal` meets its contract: what is found from row i on is what is found from the start.
use mathlib.Core.Path.{◌∙◌}
use Prim.Native.Nat.{◌*◌}
use native.Mathlib.Nat.{mul-le-mul_right}
use native.Mathlib.Omega.{arith}
use Rattle.table_checks.proofs.Searches.{unequal_end}
use Rattle.table_checks.proofs.Verdicts.{unequal_told, equal_told}
use Rattle.table_checks.proofs.cells.Table.unequal.Goals as goal

pub returns-in-Some : goal.returns-in-Some
returns-in-Some c = unequal_told _ c.loop-i.i c.in-Some.j (c.loop-i.invariant ∙ c.in-Some.ensures)

pub returns : goal.returns
returns c =
    let l = c.loop-i in
    let n = c.args.self.n in
    equal_told _ (l.invariant ∙ unequal_end _ _ (l.i * n) (mul-le-mul_right n (omega arith)))
