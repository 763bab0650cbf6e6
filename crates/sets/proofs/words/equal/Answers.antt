-- `sets::words::equal` meets its contract: two sets are the same exactly when their words are.
use mathlib.Core.Path.{refl, ◌∙◌}
use mir.Syntax.{w64}
use Rattle.limits.specs.Limits.{set_words}
use Rattle.sets.proofs.WordSets.{array_cells}
use Rattle.sets.proofs.SetLaws.{same_pointwise}
use Rattle.sets.proofs.words.equal.Goals as goal

pub returns : goal.returns
returns c =
    let a = c.args in
    let first = array_cells w64 set_words a.a _ c.well_formed.0 tt in
    let second = array_cells w64 set_words a.b _ c.well_formed.1.0 tt in
    c.eq.ensures ∙ same_pointwise 64 set_words refl a.a a.b first second
