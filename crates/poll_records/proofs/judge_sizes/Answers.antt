-- `poll_records::judge_sizes` meets its contract: what is due counts only where the leaf count is right.
use mathlib.Core.Path.{ap, ◌∙◌}
use native.Mathlib.Omega.{arith}
use Rattle.limits.specs.declared.Kind.TheVariants.{Poll}
use Rattle.refusals.specs.Refusals.{outcome_of}
use Rattle.checks.proofs.Sizes.{sizes_due}
use Rattle.poll_records.proofs.judge_sizes.Goals as goal

pub returns : goal.returns
returns c =
    c.judge_sizes.ensures
    ∙ ap outcome_of (sizes_due Poll _ _ _ _ _ _ _ (λ h.
    (c.records_due.ensures h, c.table_cells.ensures (omega arith, omega arith))))
