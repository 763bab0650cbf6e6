-- `gap_sums::column_of` meets its contract: the cells of a row are those of the column, since the halves are equal.
use mathlib.Core.Path.{◌∙◌}
use native.Mathlib.Omega.{arith}
use Rattle.gap_sums.proofs.Columns.{row_column}
use Rattle.gap_sums.proofs.column_of.Goals as goal

pub returns-else-arrays-y : goal.returns-else-arrays-y
returns-else-arrays-y c =
    let a = c.args in
    let all = row_column a.n a.table.now a.arrays.now.label a.arrays.now.m c.row_of.result.now a.a a.due a.y
    c.requires.1 c.requires.4 c.row_of.ensures.cells in
    (λ d. c.row_gaps.ensures.0 ∙ all, c.row_gaps.ensures.1)
