-- `guided_rebuild::follow` meets its contract. The loop's invariant: the proposals before k are accepted, and merged.
use Rattle.state_arrays.specs.inner.Fits.{counts_scale}
use Rattle.guided_rebuild.specs.inner.Proposals.{StepsAccepted}
use Rattle.guided_rebuild.proofs.follow.Given as goal

abbrev pub invariant-loop-k : goal.invariant-loop-k
invariant-loop-k l =
    StepsAccepted l.n (counts_scale l.p) l.table l.merges l.arrays.label l.arrays.m l.arrays.sizes l.k
