-- `spanned_rows::join_rows` meets its contract: the rows before node c are done.
use Rattle.spanned_rows.proofs.Arrays.{JoinedTo}
use Rattle.spanned_rows.proofs.join_rows.Given as goal

abbrev pub invariant-loop-c : goal.invariant-loop-c
invariant-loop-c l =
    JoinedTo l.n l.m l.listing l.initial.numbers l.numbers l.joined l.c
