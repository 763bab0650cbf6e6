-- `checks::judge_listing_sizes` meets its contract: what is worked out is due where the leaf count is right.
use mathlib.Core.Path.{refl, ap, ◌∙◌}
use Rattle.limits.specs.declared.Kind.TheVariants.{Counts}
use Rattle.refusals.specs.Refusals.{outcome_of}
use Rattle.checks.proofs.Sizes.{sizes_due}
use Rattle.checks.proofs.judge_listing_sizes.Goals as goal

pub returns : goal.returns
returns c =
    c.judge_sizes.ensures
    ∙ ap outcome_of (sizes_due Counts _ _ _ _ _ _ _ (λ h. (c.listing_numbers.ensures h, refl)))
