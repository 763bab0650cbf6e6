-- `guided_rebuild::try_merge` meets its contract: what its tests say holds in any state that the arrays hold.
use native.Mathlib.Omega.{arith}
use Rattle.base.proofs.Bools.{never}
use Rattle.guided_rebuild.proofs.Proposals.{proposal_refused, proposal_accepted, one_label, two_labels}
use Rattle.guided_rebuild.proofs.Proposals.{merges_up, merges_down, labels_fit, merged_up, merged_down}
use Rattle.guided_rebuild.proofs.try_merge.Goals.{then-a-b-via-then-a-b, then-a-b-via-else-a-b+then-not-pair_fits}
use Rattle.guided_rebuild.proofs.try_merge.Goals as goal

pub pair_fits-requires : goal.pair_fits-requires
pair_fits-requires c = two_labels c.requires c.requires.standing.stands c.if-a-b.false

pub returns-then-a-b : goal.returns-then-a-b
returns-then-a-b c =
    proposal_refused (λ S s e. elim c.then-a-b.branch [
      | then-a-b-via-then-a-b w ↦ one_label c.requires s w.if-a-b.true e
      | then-a-b-via-else-a-b+then-not-pair_fits w ↦
          never (w.pair_fits.ensures.1 (labels_fit c.requires s w.if-a-b.false e)) w.if-not-pair_fits.true
    ])

pub merge-requires : goal.merge-requires
merge-requires c = merges_up c.requires c.requires.standing.stands c.if-a-b.false

pub returns-then-a-b-2 : goal.returns-then-a-b-2
returns-then-a-b-2 c =
    let meets = c.pair_fits.ensures.0 c.if-not-pair_fits.false in
    proposal_accepted (λ S s. merged_up c.requires s c.if-a-b.false meets c.if-a-b-2.true c.merge.ensures)

pub merge-requires-else-a-b-2 : goal.merge-requires-else-a-b-2
merge-requires-else-a-b-2 c = merges_down c.requires c.requires.standing.stands c.if-a-b.false

pub returns-else-a-b-2 : goal.returns-else-a-b-2
returns-else-a-b-2 c =
    let meets = c.pair_fits.ensures.0 c.if-not-pair_fits.false in
    proposal_accepted (λ S s. merged_down c.requires s c.if-a-b.false meets (omega arith) c.merge-else-a-b-2.ensures)
