-- `newick_writing::put_bytes` meets its contract: what is left to put, put behind what is put, is the whole.
use mathlib.Core.Path.{◌≡◌}
use lib.ListN.{length, take, drop}
use lib.Seq.{sets}
use Rattle.newick_writing.proofs.Putting.{left_put}
use Rattle.newick_writing.proofs.put_bytes.Given as goal

abbrev pub invariant-loop-k : goal.invariant-loop-k
invariant-loop-k l =
    (length l.text ≡ length l.initial.text)
    × (left_put l.sheet l.from l.many l.at l.text l.k ≡ sets l.initial.text l.at (take l.many (drop l.from l.sheet)))
