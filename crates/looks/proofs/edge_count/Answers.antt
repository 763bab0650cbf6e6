-- `looks::edge_count` meets its contract: where the leaf count is wrong, nothing is promised.
use mathlib.Core.Path.{sym, ◌∙◌}
use native.Mathlib.Omega.{arith}
use Rattle.limits.specs.declared.Kind.TheVariants.{Counts}
use Rattle.limits.specs.Limits.{IsLeafCount}
use Rattle.checks.proofs.Sizes.{is_leaf_count, count_wrong}
use Rattle.looks.proofs.edge_count.Goals.{Else-not-leaf_count}
use Rattle.looks.proofs.edge_count.Goals as goal

pub returns-then-not-leaf_count : goal.returns-then-not-leaf_count
returns-then-not-leaf_count c h = absurd (count_wrong Counts _ (sym c.leaf_count.ensures ∙ c.if-not-leaf_count.true) h)

count : (c : Else-not-leaf_count) → IsLeafCount c.args.n
count c = is_leaf_count _ (sym c.leaf_count.ensures ∙ c.if-not-leaf_count.false)

pub overflow_mul-result : goal.overflow_mul-result
overflow_mul-result c = omega (arith, count c)

pub overflow_sub-result : goal.overflow_sub-result
overflow_sub-result c = omega (arith, count c)
