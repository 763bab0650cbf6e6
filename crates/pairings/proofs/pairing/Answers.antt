-- `pairings::pairing` meets its contract: the listing is judged, then the question, and only then is the tree read.
use mathlib.Core.Path.{◌≡◌, sym, ◌∙◌}
use mathlib.Core.Option.{none}
use Rattle.refusals.proofs.Answers.{call_passed, refused_some}
use Rattle.listings.specs.Operations.{listing_refusal}
use Rattle.listings.proofs.ListingRefusal.{accepted_listing}
use Rattle.checks.specs.Questions.{question_refusal}
use Rattle.pairings.proofs.PairingAnswer.{listing_refused, question_refused, question_answered}
use Rattle.pairings.proofs.pairing.Goals.{In_ok-judge, In_ok-judge_question}
use Rattle.pairings.proofs.pairing.Goals as goal

pub returns-in_err-judge : goal.returns-in_err-judge
returns-in_err-judge c =
    listing_refused _ _ _ (refused_some _ _ (sym c.judge.ensures ∙ c.in_err-judge.was)) c.from_residual.ensures

-- the listing is not refused
listing_fine :
    (c : In_ok-judge)
    → (let a = c.args in listing_refusal a.n a.listing.now 0 0 ≡ none)
listing_fine c = call_passed _ c.judge.ensures c.in_ok-judge.was

pub returns-in_err-judge_question : goal.returns-in_err-judge_question
returns-in_err-judge_question c =
    let arises = refused_some _ _ (sym c.judge_question.ensures ∙ c.in_err-judge_question.was) in
    question_refused _ _ _ (listing_fine (goal.at.returns-in_err-judge_question c).In_ok-judge) arises
    c.from_residual-in_err-judge_question.ensures

-- nor is the question
question_fine :
    (c : In_ok-judge_question)
    → (let a = c.args in
    question_refusal a.n a.question ≡ none)
question_fine c = call_passed _ c.judge_question.ensures c.in_ok-judge_question.was

pub pairing_of-requires : goal.pairing_of-requires
pairing_of-requires c =
    let a = accepted_listing _ _ _ _ (listing_fine (goal.at.pairing_of-requires c).In_ok-judge) in
    (a.count, a.keeps, question_fine c)

pub returns : goal.returns
returns c =
    let at = goal.at.returns c in
    question_answered _ _ _ (listing_fine at.In_ok-judge) (question_fine at.In_ok-judge_question)
    c.pairing_of.ensures
