-- `sheets::trailer::offset_of` meets its contract: four bytes are two and two.
use native.Mathlib.Omega.{arith}
use Rattle.sheet_rules.proofs.TrailerFigures.{offset_long, offset_short}
use Rattle.sheets.proofs.trailer.offset_of.Goals as goal

pub returns-then-sheet-lt-TRAILER : goal.returns-then-sheet-lt-TRAILER
returns-then-sheet-lt-TRAILER c = omega (arith, offset_short c.args.sheet.now (omega arith))

pub returns : goal.returns
returns c =
    omega (arith, offset_long c.args.sheet.now (omega arith))
