-- `packed_tables::write_row` meets its contract: its tests are the definition's.
use mathlib.Core.Path.{sym, ◌∙◌}
use mathlib.Core.Bool.{and-false}
use native.Mathlib.Omega.{arith}
use borrow.Author.Tests.{le-ltb, lt-leb}
use lib.Dec.{ltb}
use lib.ListN.{length}
use Rattle.packed_tables.specs.Packed.{Packed}
use Rattle.packed_tables.specs.Operations.{is_packed, with_packed_row}
use Rattle.packed_tables.proofs.Sizes.{passed_packed, row_read}
use Rattle.packed_tables.proofs.write_row.Goals.{Then-is_packed}
use Rattle.packed_tables.proofs.write_row.Goals.{else-is_packed-via-then-is_packed+then-i-n+else-n-out}
use Rattle.packed_tables.proofs.write_row.Goals.{else-is_packed-via-then-is_packed+else-i-n}
use Rattle.packed_tables.proofs.write_row.Goals.{else-is_packed-via-else-is_packed}
use Rattle.packed_tables.proofs.write_row.Goals as goal

-- the bytes are a packed table
right : (c : Then-is_packed) → Packed c.args.n c.args.packed.now
right c = passed_packed _ _ (sym c.is_packed.ensures ∙ c.if-is_packed.true)

pub invariant_of-write_row : goal.invariant_of-write_row
invariant_of-write_row c = record { packed = right (goal.at.invariant_of-write_row c).Then-is_packed }

pub returns-then-n-out : goal.returns-then-n-out
returns-then-n-out c =
    let packed = right (goal.at.returns-then-n-out c).Then-is_packed in
    c.write_row.ensures ∙ sym (row_read _ _ packed _ _ (omega arith) (omega arith))

pub returns-else-is_packed : goal.returns-else-is_packed
unfolding with_packed_row
returns-else-is_packed c =
    let a = c.args in
    let room = length a.out.now in
    elim c.else-is_packed.branch [
      | else-is_packed-via-then-is_packed+then-i-n+else-n-out w ↦
          rw (lt-leb a.n room w.if-n-out.false, and-false (ltb a.i a.n), and-false (is_packed a.n a.packed.now))
      | else-is_packed-via-then-is_packed+else-i-n w ↦
          rw (le-ltb a.i a.n w.if-i-n.false, and-false (is_packed a.n a.packed.now))
      | else-is_packed-via-else-is_packed w ↦ rw (sym c.is_packed.ensures ∙ w.if-is_packed.false)
    ]
