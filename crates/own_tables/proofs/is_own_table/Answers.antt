-- `own_tables::is_own_table` meets its contract: the rows of the leaves at the places before p are the tree's.
use mathlib.Core.Path.{sym, ◌∙◌}
use Prim.Native.Nat.{◌*◌}
use native.Mathlib.Omega.{arith}
use borrow.Author.Tests.{eq-eqb}
use Rattle.base.proofs.Counts.{true_all}
use Rattle.trees.specs.Tables.{is_own_table}
use Rattle.least_depths.proofs.Rows.{rows_none, rows_more}
use Rattle.least_depths.proofs.RowCounts.{all_rows}
use Rattle.own_tables.proofs.Rows.{RowJudged, row_judged}
use Rattle.own_tables.proofs.is_own_table.Goals.{After-count_right}
use Rattle.own_tables.proofs.is_own_table.Goals as goal

pub loop-p-init : goal.loop-p-init
loop-p-init c =
    let made = c.fill.ensures in rw c.first-row.ensures.0 (made.0, made.1 ∙ c.new-order.ensures.1, rows_none)

pub count_right-requires : goal.count_right-requires
count_right-requires c = rw (c.seek.ensures.0, c.loop-p.invariant.0, c.requires.2) (omega arith)

-- what the count of the right cells says of the row, and of the table
judged : (c : After-count_right) → RowJudged c.loop-p.row.order.now c.loop-p.p c.args.cells.now c.count_right.result
judged c =
    row_judged (rw c.loop-p.invariant.0 c.loop-p-test.true) (rw (c.seek.ensures.0, c.seek.ensures.1) at
    c.count_right.ensures)

pub returns-then-count_right-n : goal.returns-then-count_right-n
returns-then-count_right-n c =
    let i = c.loop-p.invariant in
    let j = judged (goal.at.returns-then-count_right-n c).After-count_right in
    sym (rw (i.0, i.1) at (j.some_wrong (rw i.0 c.if-count_right-n.true)))

pub loop-p-preserved : goal.loop-p-preserved
loop-p-preserved c =
    let i = c.loop-p.invariant in
    let j = judged (goal.at.loop-p-preserved c).After-count_right in
    rw c.seek.ensures.0 (i.0, i.1, rows_more i.2 (j.all_right (rw i.0 c.if-count_right-n.false)))

pub returns : goal.returns
unfolding is_own_table
returns c =
    let i = c.loop-p.invariant in
    let order = c.loop-p.row.order.now in
    let n = c.args.n in
    sym (true_all (n * n) _ (λ k l.
    eq-eqb _ _ (rw (i.0, i.1) at (all_rows order.ordered (rw i.0 (omega arith)) i.2 k (rw i.0 l)))))
