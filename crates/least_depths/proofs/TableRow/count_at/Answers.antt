-- `least_depths::TableRow::count_at` meets its contract: no sum is too large, and a whole more than the count.
use native.Mathlib.Omega.{arith}
use Rattle.least_depths.proofs.RowCounts.{count_told, count_fits}
use Rattle.least_depths.proofs.TableRow.count_at.Goals as goal

pub overflow_add-result-2 : goal.overflow_add-result-2
overflow_add-result-2 c =
    let row = c.args.self.now in omega (arith, count_fits row.order.now row.found c.args.j c.requires)

pub overflow_sub-result : goal.overflow_sub-result
overflow_sub-result c =
    let row = c.args.self.now in omega (arith, count_told row.order.now row.found c.args.j c.requires)

pub returns : goal.returns
returns c = let row = c.args.self.now in omega (arith, count_told row.order.now row.found c.args.j c.requires)
