-- `eligible_pairs::block_fits` meets its contract. The loop's invariant: the rows passed have no wrong cell.
use mathlib.Core.Path.{◌∙◌, sym}
use native.Mathlib.Omega.{arith}
use borrow.Author.Count.{below_more}
use Rattle.pair_counts.proofs.Pairs.{P_most}
use Rattle.eligible_pairs.proofs.Mismatches.{row_right, right_row, says_no, says_yes}
use Rattle.eligible_pairs.proofs.block_fits.Goals as goal
use Rattle.eligible_pairs.proofs.block_fits.Goals.{else-arrays-x-via-else-arrays-x}
use Rattle.eligible_pairs.proofs.block_fits.Goals.{else-arrays-x-via-then-arrays-x+else-row_wrong-ne0}

pub overflow_add-e : goal.overflow_add-e
overflow_add-e g c =
    omega (arith, P_most, c.requires.2 c.loop-x.x (omega arith))

pub returns-then-row_wrong-ne0 : goal.returns-then-row_wrong-ne0
returns-then-row_wrong-ne0 g c =
    let x = c.loop-x.x in
    says_no (λ w. c.if-row_wrong-ne0.true (c.row_wrong.ensures
    ∙ right_row _ _ _ _ x _ _ (λ y l q. w x y (omega arith) l c.if-arrays-x.true q)))

pub loop-x-preserved : goal.loop-x-preserved
loop-x-preserved g c =
    below_more _ _ c.loop-x.invariant (elim c.else-arrays-x.branch [
      | else-arrays-x-via-then-arrays-x+else-row_wrong-ne0 w ↦
          (λ p. row_right _ _ _ _ _ _ _ (sym w.row_wrong.ensures ∙ w.if-row_wrong-ne0.false))
      | else-arrays-x-via-else-arrays-x w ↦ (λ p. absurd (w.if-arrays-x.false p))
    ])
