-- `grafted_rows::write_below` and `write_subtree` end. The measure is twice the number v, since a child's is smaller,
-- and one more for `write_subtree`, which passes v on.
use Prim.Native.Nat.{◌+◌, ◌*◌}
use Rattle.grafted_rows.proofs.+write_below_write_subtree.Given as goal

abbrev pub decreases-write_below : goal.decreases-write_below
decreases-write_below l = 2 * l.v

abbrev pub decreases-write_subtree : goal.decreases-write_subtree
decreases-write_subtree l = 2 * l.v + 1
