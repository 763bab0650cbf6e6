-- `leaf_merges::partner` meets its contract. The loop's invariant: no label passed may be merged with `a`.
use native.Mathlib.Omega.{arith}
use borrow.Author.Count.{below_more}
use Rattle.base.proofs.Bools.{never}
use Rattle.leaf_merges.proofs.partner.Goals as goal
use Rattle.leaf_merges.proofs.partner.Goals.{else-arrays-b-via-then-arrays-b+else-pair_fits}
use Rattle.leaf_merges.proofs.partner.Goals.{else-arrays-b-via-else-arrays-b}

pub loop-b-preserved : goal.loop-b-preserved
loop-b-preserved g c =
    below_more _ _ c.loop-b.invariant (λ l q. elim c.else-arrays-b.branch [
      | else-arrays-b-via-then-arrays-b+else-pair_fits w ↦ never (w.pair_fits.ensures.1 q.1) w.if-pair_fits.false
      | else-arrays-b-via-else-arrays-b w ↦ w.if-arrays-b.false q.0
    ])
