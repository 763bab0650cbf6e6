-- `sets::single` meets its contract: the words of a set have its bytes.
use mathlib.Core.Path.{ap, ◌∙◌}
use Rattle.trees.specs.Splits.{bytes_of}
use Rattle.sets.specs.Words.{set_of_words}
use Rattle.sets.proofs.SetLaws.{words_bytes}
use Rattle.sets.proofs.single.Goals as goal

pub returns : goal.returns
returns c =
    c.to_bytes.ensures ∙ ap (λ w. bytes_of (set_of_words w)) c.single.ensures ∙ words_bytes _
