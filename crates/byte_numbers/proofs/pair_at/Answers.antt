-- `byte_numbers::pair_at` meets its contract: the second byte counts 256 times.
use native.Mathlib.Omega.{arith}
use Rattle.byte_numbers.proofs.Bytes.{number_two}
use Rattle.byte_numbers.proofs.pair_at.Goals as goal

pub returns : goal.returns
returns c =
    let a = c.args in
    (omega (arith, number_two a.bytes.now a.at), omega arith)
