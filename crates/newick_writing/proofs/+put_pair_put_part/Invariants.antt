-- The measure is twice the number v, since a child's is smaller, and one more for `put_part`, which passes v on.
use Prim.Native.Nat.{◌+◌, ◌*◌}
use Rattle.newick_writing.proofs.+put_pair_put_part.Given as goal

abbrev pub decreases-put_pair : goal.decreases-put_pair
decreases-put_pair l = 2 * l.v

abbrev pub decreases-put_part : goal.decreases-put_part
decreases-put_part l = 2 * l.v + 1
