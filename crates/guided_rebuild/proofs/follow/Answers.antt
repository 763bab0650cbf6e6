-- `guided_rebuild::follow` meets its contract. The loop's invariant: the proposals before k are accepted, and merged.
use native.Mathlib.Omega.{arith}
use Rattle.guided_rebuild.proofs.Proposals.{steps_end, step_refused, step_accepted, guided_done, guided_at}
use Rattle.guided_rebuild.proofs.follow.Goals as goal

pub returns-then-not-propose : goal.returns-then-not-propose
returns-then-not-propose c =
    guided_at _ _ _ _
    (step_refused c.loop-k.invariant (omega arith) c.from-i.ensures c.from-j.ensures c.propose.ensures
    c.if-not-propose.true)

pub loop-k-preserved : goal.loop-k-preserved
loop-k-preserved c =
    step_accepted c.loop-k.invariant (omega arith) c.from-i.ensures c.from-j.ensures c.propose.ensures
    c.if-not-propose.false

pub returns : goal.returns
returns c = guided_done _ _ _ _ (steps_end c.loop-k.invariant (omega arith))
