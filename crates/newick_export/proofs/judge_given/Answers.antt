-- `newick_export::judge_given` meets its contract: the sizes, then the rules of the listing.
use mathlib.Core.Path.{◌≡◌, ap, sym, ◌∙◌}
use mathlib.Core.Option.{none}
use native.Mathlib.Omega.{arith}
use lib.ListN.{length}
use Rattle.refusals.specs.Refusals.{outcome_of}
use Rattle.refusals.proofs.Answers.{handed_on, refused_some, judged_stops, judged_passes, call_passed}
use Rattle.trees.specs.Listings.{rules_refusal}
use Rattle.listings.proofs.ListingRefusal.{rules_left}
use Rattle.newick_export.specs.inner.Judging.{sizes_refusal, given_refusal}
use Rattle.newick_export.proofs.ExportRefusal.{sizes_right}
use Rattle.newick_export.proofs.judge_given.Goals.{After-judge, In_ok-judge_sizes}
use Rattle.newick_export.proofs.judge_given.Goals as goal

pub returns-in_err-judge_sizes : goal.returns-in_err-judge_sizes
unfolding given_refusal
returns-in_err-judge_sizes c =
    let arises = refused_some _ _ (sym c.judge_sizes.ensures ∙ c.in_err-judge_sizes.was) in
    rw (handed_on _ c.from_residual.ensures) (judged_stops _ arises)

-- the sizes are right
sized :
    (c : In_ok-judge_sizes)
    → (let a = c.args in
    let f = a.figures in
    sizes_refusal a.sheet.now f.leaves f.offset (length a.listing.now) ≡ none)
sized c = call_passed _ c.judge_sizes.ensures c.in_ok-judge_sizes.was

-- what `listings::judge` says is what the rules say
rules_told :
    (c : After-judge)
    → (let a = c.args in
    let f = a.figures in
    sizes_refusal a.sheet.now f.leaves f.offset (length a.listing.now) ≡ none
    → c.judge.result ≡ outcome_of (rules_refusal f.leaves a.listing.now))
rules_told c h =
    let s = sizes_right _ _ _ _ h in
    c.judge.ensures ∙ ap outcome_of (rules_left _ _ 0 0 s.count s.long (omega arith))

pub returns-in_err-judge : goal.returns-in_err-judge
unfolding given_refusal
returns-in_err-judge c =
    let at = goal.at.returns-in_err-judge c in
    let sizes = sized at.In_ok-judge_sizes in
    let arises = refused_some _ _ (sym (rules_told at.After-judge sizes) ∙ c.in_err-judge.was) in
    rw (handed_on _ c.from_residual-in_err-judge.ensures) (judged_passes _ sizes ∙ judged_stops _ arises)

pub returns : goal.returns
returns c =
    let at = goal.at.returns c in
    let sizes = sized at.In_ok-judge_sizes in
    record { sizes = sizes; rules = call_passed _ (rules_told at.After-judge sizes) c.in_ok-judge.was }
