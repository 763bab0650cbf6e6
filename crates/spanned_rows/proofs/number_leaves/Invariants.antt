-- `spanned_rows::number_leaves` meets its contract: the first k leaves are numbered.
use Rattle.spanned_rows.proofs.Arrays.{Numbering}
use Rattle.spanned_rows.proofs.number_leaves.Given as goal

abbrev pub invariant-loop-k : goal.invariant-loop-k
invariant-loop-k l = Numbering l.n l.marks l.numbers l.k l.m
