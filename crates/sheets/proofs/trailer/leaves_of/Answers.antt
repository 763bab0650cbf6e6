-- `sheets::trailer::leaves_of` meets its contract: the count stands in the first two bytes of the trailer.
use native.Mathlib.Omega.{arith}
use Rattle.sheet_rules.proofs.TrailerFigures.{leaves_long, leaves_short}
use Rattle.sheets.proofs.trailer.leaves_of.Goals as goal

pub returns-then-sheet-lt-TRAILER : goal.returns-then-sheet-lt-TRAILER
returns-then-sheet-lt-TRAILER c = (omega (arith, leaves_short c.args.sheet.now (omega arith)), omega arith)

pub returns : goal.returns
returns c =
    (omega (arith, leaves_long c.args.sheet.now (omega arith)), omega arith)
