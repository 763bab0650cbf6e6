-- `newick_runs::skip` meets its contract: the bytes before j all leave the reader where it is.
use Prim.Native.Nat.{◌-◌}
use Rattle.newick_states.specs.inner.States.{number_of}
use Rattle.newick_runs.specs.inner.Runs.{stays, Passed}
use Rattle.newick_runs.proofs.skip.Given as goal

abbrev pub invariant-loop-j : goal.invariant-loop-j
invariant-loop-j l = Passed (stays (number_of l.state)) l.text l.k l.j
