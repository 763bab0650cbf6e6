-- `change_checks::judge_cells` meets its contract: a table that is refused by 4 or 5 is refused by that.
use native.Mathlib.Omega.{arith}
use Rattle.change_checks.proofs.Refusals.{cells_stop}
use Rattle.change_checks.proofs.judge_cells.Goals as goal

pub returns-in-Err : goal.returns-in-Err
returns-in-Err c = grind (arith, cells_stop)
