-- `guesses::guess_checked` meets its contract: the rebuild gives the tree, and where it gives none, the guess is
-- written over the buffer as it was.
use mathlib.Core.Path.{◌∙◌}
use Rattle.limits.proofs.TableKinds.{leaf_count_of}
use Rattle.guesses.proofs.Told.{as_it_was, tells_rebuilt, tells_guess}
use Rattle.guesses.proofs.guess_checked.Goals as goal

pub rebuild_checked-requires : goal.rebuild_checked-requires
rebuild_checked-requires c =
    (leaf_count_of c.args.kind c.args.n c.requires.0, c.requires.1, c.requires.2)

pub guess_tree-requires : goal.guess_tree-requires
guess_tree-requires c =
    let told = c.rebuild_checked.ensures in
    let same = as_it_was _ _ _ _ told.answer told.buffer c.in-Err.is in
    (c.requires.0, c.requires.1, rw same c.requires.2)

pub returns-in-Err : goal.returns-in-Err
returns-in-Err c =
    let told = c.rebuild_checked.ensures in
    let made = c.guess_tree.ensures in
    let both = tells_guess _ _ _ _ told.answer told.buffer c.in-Err.is made.total made.buffer in
    record { found = c.new-in-Err.ensures ∙ both.0; buffer = both.1 }

pub returns-in-Ok : goal.returns-in-Ok
returns-in-Ok c =
    let told = c.rebuild_checked.ensures in
    let both = tells_rebuilt _ _ _ _ told.answer told.buffer c.in-Ok.is in
    record { found = c.new.ensures ∙ both.0; buffer = both.1 }
