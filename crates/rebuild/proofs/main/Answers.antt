-- `rebuild::main` meets its contract: the input is lent as long as it was read, and rows are printed of a tree alone.
use mathlib.Core.Path.{sym, ◌∙◌}
use Rattle.guesses.proofs.Trees.{told_count}
use Rattle.rebuild.proofs.main.Goals as goal

pub print_rows-requires : goal.print_rows-requires
print_rows-requires c =
    let answer = c.guess_sheet-answer.ensures.answer in
    rw c.leaf_count_of-n.ensures.0 (told_count _ _ (sym answer ∙ c.in-Ok.is)).1
