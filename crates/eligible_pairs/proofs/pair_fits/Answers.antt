-- `eligible_pairs::pair_fits` meets its contract: one cell that is wrong is enough to refuse, and the block of
-- either side's rows says the same, since the table has equal halves.
use mathlib.Core.Path.{ap, ◌∙◌}
use mathlib.Core.Bool.{not}
use native.Mathlib.Omega.{arith}
use Rattle.pair_counts.proofs.Pairs.{P_most}
use Rattle.trees.specs.Tables.{cell}
use Rattle.eligible_pairs.proofs.Mismatches.{says_no, unexpected}
use Rattle.state_arrays.proofs.Fits.{both_fit, expected_small, first_off, across}
use Rattle.eligible_pairs.proofs.pair_fits.Goals as goal

pub overflow_add-expected : goal.overflow_add-expected
overflow_add-expected g c =
    omega (arith, P_most, expected_small c.requires)

pub overflow_add-expected-2 : goal.overflow_add-expected-2
overflow_add-expected-2 g c =
    omega (arith, P_most, expected_small c.requires)

pub returns-then-second-first : goal.returns-then-second-first
returns-then-second-first g c =
    let w = c.requires in
    across w c.block_fits.ensures
