-- `packed_tables::cell` meets its contract: its tests are the definition's.
use mathlib.Core.Path.{sym, ◌∙◌}
use mathlib.Core.Bool.{and-false}
use native.Mathlib.Omega.{arith}
use borrow.Author.Tests.{le-ltb}
use lib.Dec.{ltb}
use Rattle.packed_tables.specs.Packed.{Packed}
use Rattle.packed_tables.specs.Operations.{is_packed, packed_cell}
use Rattle.packed_tables.proofs.Sizes.{passed_packed, cell_read}
use Rattle.packed_tables.proofs.cell.Goals.{Then-is_packed}
use Rattle.packed_tables.proofs.cell.Goals.{else-is_packed-via-then-is_packed+then-i-n+else-j-n}
use Rattle.packed_tables.proofs.cell.Goals.{else-is_packed-via-then-is_packed+else-i-n}
use Rattle.packed_tables.proofs.cell.Goals.{else-is_packed-via-else-is_packed}
use Rattle.packed_tables.proofs.cell.Goals as goal

-- the bytes are a packed table
right : (c : Then-is_packed) → Packed c.args.n c.args.packed.now
right c = passed_packed _ _ (sym c.is_packed.ensures ∙ c.if-is_packed.true)

pub invariant_of-cell : goal.invariant_of-cell
invariant_of-cell c = record { packed = right (goal.at.invariant_of-cell c).Then-is_packed }

pub returns-then-j-n : goal.returns-then-j-n
returns-then-j-n c =
    let packed = right (goal.at.returns-then-j-n c).Then-is_packed in
    c.cell.ensures ∙ sym (cell_read _ _ packed _ _ (omega arith) (omega arith))

pub returns : goal.returns
unfolding packed_cell
returns c =
    let a = c.args in
    elim c.else-is_packed.branch [
      | else-is_packed-via-then-is_packed+then-i-n+else-j-n w ↦
          rw (le-ltb a.j a.n w.if-j-n.false, and-false (ltb a.i a.n), and-false (is_packed a.n a.packed.now))
      | else-is_packed-via-then-is_packed+else-i-n w ↦
          rw (le-ltb a.i a.n w.if-i-n.false, and-false (is_packed a.n a.packed.now))
      | else-is_packed-via-else-is_packed w ↦ rw (sym c.is_packed.ensures ∙ w.if-is_packed.false)
    ]
