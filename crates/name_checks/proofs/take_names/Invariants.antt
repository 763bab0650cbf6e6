-- `name_checks::take_names` meets its contract: no refusal arises from the names passed so far, and they are
-- in the index.
use mathlib.Core.Path.{◌≡◌}
use Rattle.sheet_rules.proofs.NameRefusals.{PassedNames}
use Rattle.name_index.specs.inner.Indexes.{first_names}
use Rattle.name_checks.proofs.take_names.Given as goal

abbrev pub invariant-loop-i : goal.invariant-loop-i
invariant-loop-i l =
    PassedNames l.sheet l.n l.offset l.i l.at × (l.names ≡ first_names l.sheet l.i)
