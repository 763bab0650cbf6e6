-- `name_index::compare::four_at` meets its contract: four bytes are two and two.
use native.Mathlib.Omega.{arith}
use Rattle.byte_numbers.proofs.Bytes.{number_four}
use Rattle.name_index.proofs.compare.four_at.Goals as goal

pub returns : goal.returns
returns c =
    let a = c.args in
    (omega (arith, number_four a.bytes.now a.at), omega arith)
