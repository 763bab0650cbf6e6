-- `name_index::compare::same_eight` meets its contract: bytes are the same where the numbers in them are.
use native.Mathlib.Omega.{arith}
use Rattle.name_index.proofs.Parts.{same_numbers}
use Rattle.name_index.proofs.compare.same_eight.Goals as goal

pub returns : goal.returns
returns c =
    let a = c.args in
    rw (c.eight_at.ensures, c.eight_at-2.ensures)
    (same_numbers a.s.now a.t.now a.at 8
    (λ k. omega (arith, c.shared_slice_known-1.given k))
    (λ k. omega (arith, c.shared_slice_known-2-1.given k))
    c.requires.0 c.requires.1)
