-- `sheets::JudgedSheet::cells` meets its contract: the cells stand between the offset and the trailer.
use mathlib.Core.Path.{◌≡◌, refl}
use Prim.Native.Nat.{◌+◌, ◌-◌, ◌*◌}
use native.Mathlib.Omega.{arith}
use Rattle.sheet_rules.proofs.SheetRefusal.{Accepted}
use Rattle.sheets.proofs.Judged.{accepted_here}
use Rattle.sheets.proofs.JudgedSheet.cells.Goals.{After-self}
use Rattle.sheets.proofs.JudgedSheet.cells.Goals as goal

-- what was accepted, by the figures that the code has
accepted : (c : After-self) → (let s = c.self.inside in Accepted s.bytes.now s.figures.leaves s.figures.offset 0 0)
accepted c =
    let figures = c.self.invariant.0 in
    rw (figures.0, figures.1) (accepted_here _ _ _ c.self.invariant.1)

pub overflow_sub-end : goal.overflow_sub-end
overflow_sub-end c = omega (arith, (accepted (goal.at.overflow_sub-end c).After-self).count)

pub overflow_add-end : goal.overflow_add-end
overflow_add-end c = omega (arith, (accepted (goal.at.overflow_add-end c).After-self).sum)

pub slice_bounds-result-end : goal.slice_bounds-result-end
slice_bounds-result-end c = omega (arith, (accepted (goal.at.slice_bounds-result-end c).After-self).sum)

pub returns : goal.returns
returns c =
    let f = c.self.inside.figures in
    let figures = c.self.invariant.0 in
    let many : f.offset + f.leaves * (f.leaves - 1) - f.offset ≡ f.leaves * (f.leaves - 1) = omega arith in
    rw (← c.self.view_is) (record { cells = rw (many, figures.0, figures.1) refl; kept = c.self.invariant.1 })
