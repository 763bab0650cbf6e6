-- `sheet_tables::sheet_table` meets its contract: nothing is written before the sheet is judged, and then its table is.
use mathlib.Core.Path.{◌≡◌}
use Prim.Native.Nat.{◌*◌, ◌≤◌}
use native.Mathlib.Nat.{mul-le-mul}
use native.Mathlib.Omega.{arith}
use lib.ListN.{length}
use Rattle.refusals.specs.Refusals.{answered, returned}
use Rattle.packed_tables.specs.Packed.{table_with}
use Rattle.sheet_rules.specs.Sheets.{leaves_of, cells_of}
use Rattle.sheet_rules.specs.Operations.{sheet_refusal}
use Rattle.name_checks.proofs.Tells.{tells_this, tells_answered}
use Rattle.sheet_tables.specs.Operations.{sheet_table_answer}
use Rattle.sheet_tables.proofs.sheet_table.Goals.{After-judge}
use Rattle.sheet_tables.proofs.sheet_table.Goals as goal

pub overflow_mul-n : goal.overflow_mul-n
overflow_mul-n c =
    let few : c.figures-n.result.leaves ≤ 65535 = omega arith in
    omega (arith, mul-le-mul few few)

-- the sheet is judged with room for the table of as many leaves as it says
says :
    (c : After-judge)
    → (let S = c.args.sheet.now in
    c.judge.result ≡ returned (answered (sheet_refusal S (leaves_of S * leaves_of S) (length c.args.out.now)) S))
says c = rw (c.figures-n.ensures.0, c.new-sheet.ensures) at c.judge.ensures

pub returns-in_err-judged : goal.returns-in_err-judged
unfolding sheet_table_answer
returns-in_err-judged c =
    let S = c.args.sheet.now in
    let both =
    tells_answered _ _ (says (goal.at.returns-in_err-judged c).After-judge) c.in_err-judged.was
    (table_with (leaves_of S) (cells_of S)) c.args.out.now c.from_residual.ensures in
    record { answer = both.0; buffer = both.1 }

pub returns : goal.returns
returns c =
    let told = says (goal.at.returns c).After-judge in
    let made = rw (tells_this _ _ told c.in_ok-judged.was) at c.table_of.ensures in
    record { answer = made.answer; buffer = made.buffer }
