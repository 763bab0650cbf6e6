-- `eligible_pairs::wrong` meets its contract: the tests of the code are those of `mismatch`.
use mathlib.Core.Path.{◌≡◌, refl, ap, ◌∙◌}
use mathlib.Core.Bool.{Bool, true, false, not}
use Rattle.std.specs.Int.{from_bool}
use borrow.Author.Tests.{eq-eqb, ne_eqb}
use Rattle.base.specs.Numbers.{indicator}
use Rattle.eligible_pairs.specs.inner.Mismatches.{mismatch}
use Rattle.eligible_pairs.proofs.wrong.Goals.{Joined-label-b, then-label-b, else-label-b}
use Rattle.eligible_pairs.proofs.wrong.Goals as goal

counted : (b : Bool) → from_bool b ≡ indicator b 1
counted true = refl
counted false = refl

tested : (c : Joined-label-b) → let a = c.args in c.if-label-b.from ≡ mismatch a.label a.b a.cell a.expected
unfolding mismatch
tested c = elim c.if-label-b.branch [
  | then-label-b w ↦ w.from-is ∙ rw (eq-eqb _ _ w.if-label-b.true) (ap not w.as_expected.ensures)
  | else-label-b w ↦ w.from-is ∙ rw (ne_eqb _ _ w.if-label-b.false)
]

pub returns : goal.returns
returns c =
    c.from.ensures ∙ counted _ ∙ ap (λ r. indicator r 1) (tested (goal.at.returns c).Joined-label-b)
