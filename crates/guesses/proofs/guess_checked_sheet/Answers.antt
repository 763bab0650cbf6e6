-- `guesses::guess_checked_sheet` meets its contract: the sheet's rebuild gives the tree, and where it gives none, the
-- guess is written over the buffer as it was.
use mathlib.Core.Path.{◌∙◌}
use Rattle.sheet_trees.specs.Operations.{sheet_tree}
use Rattle.guess_answers.specs.Operations.{sheet_reply, sheet_guessed}
use Rattle.guesses.proofs.Told.{as_it_was, tells_rebuilt, tells_guess}
use Rattle.guesses.proofs.guess_checked_sheet.Goals as goal

pub sheet_guess-requires : goal.sheet_guess-requires
unfolding sheet_tree
sheet_guess-requires c =
    let told = c.tree_of.ensures in
    let same = as_it_was _ _ _ _ told.answer told.buffer c.in-Err.is in
    rw same c.requires

pub returns-in-Err : goal.returns-in-Err
unfolding sheet_tree sheet_reply sheet_guessed
returns-in-Err c =
    let told = c.tree_of.ensures in
    let made = c.sheet_guess.ensures in
    let both = tells_guess _ _ _ _ told.answer told.buffer c.in-Err.is made.total made.buffer in
    record { found = c.new-in-Err.ensures ∙ both.0; buffer = both.1 }

pub returns-in-Ok : goal.returns-in-Ok
unfolding sheet_tree sheet_reply
returns-in-Ok c =
    let told = c.tree_of.ensures in
    let both = tells_rebuilt _ _ _ _ told.answer told.buffer c.in-Ok.is in
    record { found = c.new.ensures ∙ both.0; buffer = both.1 }
