-- `sets::equal` meets its contract: the words of two sets are the same exactly when the sets are.
use mathlib.Core.Path.{ap₂, ◌∙◌}
use Rattle.sets.specs.Sets.{same_set}
use Rattle.sets.specs.Words.{set_of_words}
use Rattle.sets.proofs.SetLaws.{same_words}
use Rattle.sets.proofs.equal.Goals as goal

pub returns : goal.returns
returns c =
    c.equal.ensures
    ∙ ap₂ (λ v w. same_set (set_of_words v) (set_of_words w)) c.of_bytes.ensures
    c.of_bytes-2.ensures
    ∙ same_words _ _
