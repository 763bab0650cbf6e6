-- How the answer of an operation that makes a tree record is made of one that tells no origin. No operation's contract
-- cites it.
use Rattle.std.specs.Prelude.{Result, Ok, Err}
use Rattle.refusals.specs.declared.Refusal.{Refusal}
use Rattle.refusals.specs.Refusals.{Outcome}
use Rattle.tree_records.specs.declared.Origin.{Origin}

abbrev pub marked_outcome : Origin → Outcome → Result Origin Refusal
marked_outcome o (Ok tt) = Ok o
marked_outcome o (Err r) = Err r
