-- `name_index::compare::eight_at` meets its contract: eight bytes are four and four.
use native.Mathlib.Omega.{arith}
use Rattle.byte_numbers.proofs.Bytes.{number_eight}
use Rattle.name_index.proofs.compare.eight_at.Goals as goal

pub returns : goal.returns
returns c =
    let a = c.args in
    omega (arith, number_eight a.bytes.now a.at)
