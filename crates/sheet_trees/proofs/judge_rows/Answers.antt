-- `sheet_trees::judge_rows` meets its contract: the leaf count is what the trailer says.
use native.Mathlib.Nat.{mul-le-mul}
use native.Mathlib.Omega.{arith}
use Prim.Native.Nat.{◌≤◌}
use Rattle.sheet_trees.proofs.judge_rows.Goals as goal

pub overflow_mul-due : goal.overflow_mul-due
overflow_mul-due c =
    let rows : c.rows_of.result ≤ 65535 = omega arith in
    omega (arith, mul-le-mul c.requires rows)

pub returns : goal.returns
returns c = rw (c.rows_of.ensures, c.figures.ensures.0, c.new-sheet.ensures) at c.judge.ensures
