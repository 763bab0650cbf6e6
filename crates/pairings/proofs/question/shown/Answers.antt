-- `pairings::question::shown` meets its contract: the six sets of two leaves, pairing by pairing.
use mathlib.Core.Path.{refl}
use mathlib.Core.Logic.{inl, inr}
use native.Mathlib.Omega.{arith}
use borrow.Author.Tests.{ne_eqb}
use Rattle.pairings.specs.inner.Sides.{shown_by}
use Rattle.pairings.proofs.question.shown.Goals as goal

pub returns-in-3 : goal.returns-in-3
unfolding shown_by
returns-in-3 c = elim c.in-3.is [ inl e ↦ rw e (refl, omega arith) | inr e ↦ rw e (refl, omega arith) ]

pub returns-in-5 : goal.returns-in-5
unfolding shown_by
returns-in-5 c = elim c.in-5.is [ inl e ↦ rw e (refl, omega arith) | inr e ↦ rw e (refl, omega arith) ]

pub returns-in-6 : goal.returns-in-6
unfolding shown_by
returns-in-6 c = elim c.in-6.is [ inl e ↦ rw e (refl, omega arith) | inr e ↦ rw e (refl, omega arith) ]

pub returns-in_default : goal.returns-in_default
unfolding shown_by
returns-in_default c =
    let side = c.args.side in
    rw (
      ne_eqb side 3 (grind arith),
      ne_eqb side 12 (grind arith),
      ne_eqb side 5 (grind arith),
      ne_eqb side 10 (grind arith),
      ne_eqb side 6 (grind arith),
      ne_eqb side 9 (grind arith),
    )
    (omega arith)
