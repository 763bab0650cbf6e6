-- `sheets::JudgedSheet::leaves` meets its contract: the figures are those of an accepted sheet.
use Rattle.sheets.proofs.Judged.{accepted_here}
use Rattle.sheets.proofs.JudgedSheet.leaves.Goals as goal

pub returns : goal.returns
returns c =
    let count = c.self.invariant.0.0 in
    rw (← c.self.view_is) (count, rw count (accepted_here _ _ _ c.self.invariant.1).count)
