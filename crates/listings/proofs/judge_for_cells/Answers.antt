-- `listings::judge_for_cells` meets its contract: what is worked out is due where the leaf count is right.
use mathlib.Core.Path.{ap, ◌∙◌}
use Rattle.refusals.specs.Refusals.{outcome_of}
use Rattle.listings.proofs.ListingRefusal.{listing_as_due}
use Rattle.listings.proofs.judge_for_cells.Goals as goal

pub returns : goal.returns
returns c = c.judge.ensures ∙ ap outcome_of (listing_as_due _ _ _ _ _ c.table_cells.ensures)
