-- `polls::poll` meets its contract: before a turn k records are taken, and `Upto` of Tallies says what is so.
use lib.ListN.{length}
use Rattle.polls.proofs.Tallies.{Upto}
use Rattle.polls.proofs.poll.Given as goal

abbrev pub invariant-loop-k : goal.invariant-loop-k
invariant-loop-k l = Upto l.n l.records (length l.out) l.k l.due l.sums
