-- `sheet_trees::listing_of` meets its contract: nothing is written before `judge_rows` is done, and then `tree_of`
-- decides.
use mathlib.Core.Path.{◌∙◌}
use Rattle.refusals.proofs.Answers.{handed_on, unless_some, unless_none}
use Rattle.name_checks.proofs.Tells.{tells_none, tells_this, tells_some}
use Rattle.sheets.proofs.Judged.{accepted_here}
use Rattle.sheet_trees.specs.Operations.{sheet_tree, sheet_listing_answer}
use Rattle.sheet_trees.proofs.listing_of.Goals as goal

pub returns-in_err-judged : goal.returns-in_err-judged
unfolding sheet_listing_answer
returns-in_err-judged c =
    let a = c.args in
    let arises = tells_some _ _ c.judge_rows.ensures c.in_err-judged.was in
    let both = unless_some _ (sheet_tree a.sheet.now) a.listing.now _ arises in
    record { answer = handed_on _ c.from_residual.ensures ∙ both.0; buffer = both.1 }

pub tree_of-requires : goal.tree_of-requires
tree_of-requires c =
    let told = c.judge_rows.ensures in
    rw (tells_this _ _ told c.in_ok-judged.was)
    (accepted_here _ _ _ (tells_none _ _ told c.in_ok-judged.was)).room_enough

pub returns : goal.returns
unfolding sheet_listing_answer
returns c =
    let told = c.judge_rows.ensures in
    let made = rw (tells_this _ _ told c.in_ok-judged.was) at c.tree_of.ensures in
    let both = unless_none _ _ _ _ _ (tells_none _ _ told c.in_ok-judged.was) (made.answer, made.buffer) in
    record { answer = both.0; buffer = both.1 }
