-- `standard_listings::standardise` meets its contract: nothing is written before the judge is done, and what it accepts
-- keeps the rules, so that its standard listing is written.
use Rattle.refusals.proofs.Answers.{call_passed, call_refused, call_done}
use Rattle.trees.specs.Listings.{tree_of, standard}
use Rattle.listings.proofs.ListingRefusal.{accepted_listing}
use Rattle.standard_listings.specs.Operations.{standardise_answer}
use Rattle.standard_listings.proofs.SubtreeRows.{standard_end}
use Rattle.standard_listings.proofs.standardise.Goals as goal

pub returns-in_err-judge_for_rows : goal.returns-in_err-judge_for_rows
unfolding standardise_answer
returns-in_err-judge_for_rows c =
    let both = call_refused _ c.judge_for_rows.ensures (standard c.args.n (tree_of c.args.n c.args.listing.now))
    c.args.out.now c.in_err-judge_for_rows.was c.from_residual.ensures in
    record { answer = both.0; buffer = both.1 }

pub standard_rows-requires : goal.standard_rows-requires
standard_rows-requires c =
    let a = accepted_listing _ _ _ _ (call_passed _ c.judge_for_rows.ensures c.in_ok-judge_for_rows.was) in
    (a.count, a.keeps, a.room_enough)

pub returns : goal.returns
unfolding standardise_answer
returns c =
    let told = c.judge_for_rows.ensures in
    let done = c.in_ok-judge_for_rows.was in
    let both = call_done _ told _ c.args.out.now done (standard_end _ _ _ _ _ (call_passed _ told done)
    c.standard_rows.ensures) in
    record { answer = both.0; buffer = both.1 }
