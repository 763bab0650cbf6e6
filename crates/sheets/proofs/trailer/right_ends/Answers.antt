-- `sheets::trailer::right_ends` meets its contract: the mark is tested byte by byte.
use mathlib.Core.Path.{sym, ◌∙◌}
use mathlib.Core.Logic.{inl, inr}
use native.Mathlib.Omega.{arith}
use borrow.Author.Tests.{eq-eqb, ne_eqb}
use Rattle.sheet_rules.proofs.Sizes.{ends_short, ends_long, ends_mark, ends_other}
use Rattle.sheets.proofs.trailer.right_ends.Goals as goal

pub returns-then-many-lt-TRAILER : goal.returns-then-many-lt-TRAILER
returns-then-many-lt-TRAILER c = sym (elim c.then-many-lt-TRAILER.either [
  | inl short ↦ ends_short _ short
  | inr long ↦ ends_long _ long.0 long.1
])

pub returns-then-sheet-many-eq81 : goal.returns-then-sheet-many-eq81
returns-then-sheet-many-eq81 c =
    let S = c.args.sheet.now in
    rw (ends_mark S (omega arith) (omega arith), eq-eqb _ _ c.if-sheet-many-eq81.true)

pub returns-else-sheet-many-eq81 : goal.returns-else-sheet-many-eq81
returns-else-sheet-many-eq81 c =
    ne_eqb _ _ c.if-sheet-many-eq81.false ∙ sym (ends_other _ (omega arith) c.if-sheet-many-eq81.false)
