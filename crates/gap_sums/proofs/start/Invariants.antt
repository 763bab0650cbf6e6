-- `gap_sums::start` meets its contract. The loop's invariant: the sums of the leaves passed are stored.
use Rattle.gap_sums.specs.inner.GapSums.{Started}
use Rattle.gap_sums.proofs.start.Given as goal

abbrev pub invariant-loop-j : goal.invariant-loop-j
invariant-loop-j l = Started l.n l.table l.e l.j l.sums
