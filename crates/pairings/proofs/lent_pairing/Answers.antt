-- `pairings::lent_pairing` meets its contract: four numbers that are lent are a question, others are refused by 2.
use native.Mathlib.Omega.{arith}
use Rattle.pairings.proofs.LentQuestions.{count_refused, length_cause, length_refused, lent_asked}
use Rattle.pairings.proofs.lent_pairing.Goals as goal

pub returns-then-not-leaf_count : goal.returns-then-not-leaf_count
returns-then-not-leaf_count c = grind (arith, count_refused)

pub returns-in_err-asked : goal.returns-in_err-asked
returns-in_err-asked c = grind (arith, length_cause, length_refused)

pub returns : goal.returns
returns c = grind (arith, lent_asked)
