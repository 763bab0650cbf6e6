-- `sets::words::combine` meets its contract: each word is made of the two sets'.
use Rattle.std.proofs.Common.{rules}
use mathlib.Core.Path.{sym, ◌∙◌}
use lib.ListN.{get_or}
use mir.Syntax.{w64}
use Rattle.base.proofs.Filling.{known_whole}
use Rattle.limits.specs.Limits.{set_words}
use Rattle.sets.specs.inner.Numbers.{of_numbers}
use Rattle.sets.proofs.WordSets.{array_cells}
use Rattle.sets.proofs.SetLaws.{combined_cells}
use Rattle.sets.proofs.words.combine.Goals as goal

pub returns : goal.returns
returns c =
    let a = c.args in
    let first = array_cells w64 set_words a.a _ c.well_formed.1.0 tt in
    let second = array_cells w64 set_words a.b _ c.well_formed.1.1.0 tt in
    let made = c.each_word.ensures in
    known_whole (λ i. of_numbers a.what (get_or a.a i 0) (get_or a.b i 0)) 0 c.each_word.result set_words made.0
    (λ i h. let m = made.1 i h in search (rules, m))
    ∙ sym (combined_cells a.what 64 set_words _ _ first second)
