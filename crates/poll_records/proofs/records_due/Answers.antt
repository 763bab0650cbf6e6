-- `poll_records::records_due` meets its contract: where the leaf count is right no product of the formula
-- leaves 64 bits.
use mathlib.Core.Path.{refl, sym, ◌∙◌}
use native.Mathlib.Omega.{arith}
use Rattle.limits.specs.declared.Kind.TheVariants.{Poll}
use Rattle.limits.specs.Limits.{IsCountOf}
use Rattle.checks.proofs.Sizes.{is_count, count_wrong}
use Rattle.poll_rules.specs.Records.{records_due}
use Rattle.poll_rules.proofs.Records.{product_two, product_three, product_four}
use Rattle.poll_records.proofs.records_due.Goals.{Else-not-leaf_count_of}
use Rattle.poll_records.proofs.records_due.Goals as goal

-- the leaf count passed its test
count : (c : Else-not-leaf_count_of) → IsCountOf Poll c.args.n
count c = is_count Poll _ (sym c.leaf_count_of.ensures ∙ c.if-not-leaf_count_of.false)

pub returns-then-not-leaf_count_of : goal.returns-then-not-leaf_count_of
returns-then-not-leaf_count_of c =
    λ h. absurd (count_wrong Poll _ (sym c.leaf_count_of.ensures ∙ c.if-not-leaf_count_of.true) h)

pub overflow_sub-result : goal.overflow_sub-result
overflow_sub-result c = omega (arith, count c)

pub overflow_mul-result : goal.overflow_mul-result
overflow_mul-result c = omega (arith, product_two c.args.n (count c).1)

pub overflow_sub-result-2 : goal.overflow_sub-result-2
overflow_sub-result-2 c = omega (arith, count c)

pub overflow_mul-result-2 : goal.overflow_mul-result-2
overflow_mul-result-2 c = omega (arith, product_three c.args.n (count c).1)

pub overflow_sub-result-3 : goal.overflow_sub-result-3
overflow_sub-result-3 c = omega (arith, count c)

pub overflow_mul-result-3 : goal.overflow_mul-result-3
overflow_mul-result-3 c = omega (arith, product_four c.args.n (count c).1)

pub returns : goal.returns
unfolding records_due
returns c = λ h. refl
