-- `listings::judge` meets its contract: the sizes go first; where they are right the rules decide.
use Rattle.limits.specs.declared.Kind.TheVariants.{Counts}
use Rattle.refusals.proofs.Answers.{go_stops, go_passes, call_passed}
use Rattle.checks.proofs.Sizes.{sizes_right}
use Rattle.listings.specs.Operations.{listing_refusal}
use Rattle.listings.proofs.judge.Goals as goal

pub returns-in_err-judge_listing_sizes : goal.returns-in_err-judge_listing_sizes
unfolding listing_refusal
returns-in_err-judge_listing_sizes c =
    go_stops _ c.judge_listing_sizes.ensures _ c.in_err-judge_listing_sizes.was
    c.from_residual.ensures

pub first_broken-requires : goal.first_broken-requires
first_broken-requires c =
    let w =
    sizes_right Counts _ _ _ _ _ (call_passed _ c.judge_listing_sizes.ensures
    c.in_ok-judge_listing_sizes.was) in
    (w.count, w.long)

pub returns : goal.returns
unfolding listing_refusal
returns c =
    go_passes _ c.judge_listing_sizes.ensures _ c.in_ok-judge_listing_sizes.was c.first_broken.ensures
