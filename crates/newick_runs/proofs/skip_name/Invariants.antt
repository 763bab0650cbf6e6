-- `newick_runs::skip_name` meets its contract: the bytes before j are a name's, and h is its hash behind them.
use Prim.Native.Nat.{◌-◌}
use lib.ListN.{length}
use Rattle.newick_runs.specs.inner.Runs.{Named}
use Rattle.newick_runs.proofs.skip_name.Given as goal

abbrev pub invariant-loop-j : goal.invariant-loop-j
invariant-loop-j l = Named l.text l.k l.hash (record { to = l.j; hash = l.h })
