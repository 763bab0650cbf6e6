-- `sheets::index_figures` meets its contract: the sizes are judged first, and then the names decide.
use Rattle.name_checks.proofs.Tells.{told_hands}
use Rattle.sheets.proofs.Sizes.{names_decide, names_within}
use Rattle.sheets.proofs.index_figures.Goals as goal

pub returns-in_err-judge_sizes : goal.returns-in_err-judge_sizes
returns-in_err-judge_sizes c = told_hands _ c.in_err-judge_sizes.ensures c.from_residual.ensures

pub judge_names-requires : goal.judge_names-requires
judge_names-requires c = names_within c.in_ok-judge_sizes.ensures

pub returns : goal.returns
returns c = rw (names_decide c.in_ok-judge_sizes.ensures) c.judge_names.ensures
