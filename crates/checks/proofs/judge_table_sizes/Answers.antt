-- `checks::judge_table_sizes` meets its contract: what is worked out is due where the leaf count is right.
use mathlib.Core.Path.{refl, ap, ◌∙◌}
use Rattle.refusals.specs.Refusals.{outcome_of}
use Rattle.checks.proofs.Sizes.{sizes_as_due}
use Rattle.checks.proofs.judge_table_sizes.Goals as goal

pub returns : goal.returns
returns c =
    c.judge_sizes.ensures
    ∙ ap outcome_of (sizes_as_due _ _ _ _ _ _ _ _ c.table_cells.ensures (λ h. refl))
