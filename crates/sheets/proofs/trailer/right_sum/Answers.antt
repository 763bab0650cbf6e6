-- `sheets::trailer::right_sum` meets its contract: the sum is tested by a difference, and nothing wraps.
use mathlib.Core.Path.{sym, ◌∙◌}
use native.Mathlib.Omega.{arith}
use borrow.Author.Tests.{lt-leb}
use Rattle.sheet_rules.proofs.Sizes.{cell_bytes_le, sum_short, sum_long}
use Rattle.sheets.proofs.trailer.right_sum.Goals as goal

pub overflow_mul-rest : goal.overflow_mul-rest
overflow_mul-rest c = omega (arith, cell_bytes_le c.args.figures.leaves (omega arith))

pub overflow_add-rest : goal.overflow_add-rest
overflow_add-rest c = omega (arith, cell_bytes_le c.args.figures.leaves (omega arith))

pub returns-then-rest-sheet : goal.returns-then-rest-sheet
returns-then-rest-sheet c = sym (sum_long _ _ _ c.if-rest-sheet.true)

pub returns-else-rest-sheet : goal.returns-else-rest-sheet
returns-else-rest-sheet c = lt-leb _ _ c.if-rest-sheet.false ∙ sym (sum_short _ _ _ c.if-rest-sheet.false)
