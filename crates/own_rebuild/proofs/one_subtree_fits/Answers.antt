-- `own_rebuild::one_subtree_fits` meets its contract. The loop's invariant: the leaves passed are as they
-- should be.
use mathlib.Core.Bool.{not}
use mathlib.Core.Path.{ap, sym, ◌∙◌}
use native.Mathlib.Omega.{arith}
use borrow.Author.Count.{below_more}
use borrow.Author.Tests.{eqb-true}
use Rattle.eligible_pairs.proofs.Mismatches.{says_no, unexpected}
use Rattle.eligible_pairs.proofs.Lent.{first_row}
use Rattle.own_rebuild.proofs.one_subtree_fits.Goals.{then-arrays-k-ne1-via-then-arrays-k-ne1}
use Rattle.own_rebuild.proofs.one_subtree_fits.Goals.{then-arrays-k-ne1-via-else-arrays-k-ne1+then-not-as_expected}
use Rattle.own_rebuild.proofs.one_subtree_fits.Goals as goal

pub returns-then-arrays-k-ne1 : goal.returns-then-arrays-k-ne1
returns-then-arrays-k-ne1 g c =
    says_no (λ fits.
    let due = fits c.loop-k.k (omega arith) (omega arith) in
    elim c.then-arrays-k-ne1.branch [
      | then-arrays-k-ne1-via-then-arrays-k-ne1 w ↦ w.if-arrays-k-ne1.true due.0
      | then-arrays-k-ne1-via-else-arrays-k-ne1+then-not-as_expected w ↦
          unexpected _ _ _ w.as_expected.ensures (ap not w.if-not-as_expected.true)
          (w.cell.ensures ∙ first_row _ _ _ ∙ due.1)
    ])

pub loop-k-preserved : goal.loop-k-preserved
loop-k-preserved g c =
    let fits = eqb-true _ _ (sym c.as_expected.ensures ∙ c.if-not-as_expected.false) in
    let right = sym (c.cell.ensures ∙ first_row _ _ _) ∙ fits in
    below_more _ _ c.loop-k.invariant (λ z. (c.if-arrays-k-ne1.false, right))
