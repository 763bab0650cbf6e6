-- `sheets::ReadSheet::index` meets its contract: the figures are those that the trailer says.
use Rattle.sheet_rules.specs.Operations.{sheet_refusal}
use Rattle.sheets.proofs.ReadSheet.index.Goals as goal

pub returns : goal.returns
unfolding sheet_refusal
returns c =
    let figures = c.self.invariant in
    rw (← c.self.view_is) (rw (figures.0, figures.1) at c.index_figures.ensures)
