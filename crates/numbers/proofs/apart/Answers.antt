-- `numbers::apart` meets its contract: of the two differences one is 0.
use native.Mathlib.Omega.{arith}
use Rattle.base.specs.Numbers.{distance}
use Rattle.numbers.proofs.apart.Goals as goal

pub returns : goal.returns
unfolding distance
returns c = (omega (arith, c.abs_diff.ensures), omega arith)
