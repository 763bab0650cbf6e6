-- The measure of `write_node` and `write_subtree` is twice the number v, since a child's is smaller, and one more for
-- `write_subtree`, which passes v on.
use Prim.Native.Nat.{◌+◌, ◌*◌}
use Rattle.standard_listings.proofs.+write_node_write_subtree.Given as goal

abbrev pub decreases-write_node : goal.decreases-write_node
decreases-write_node l = 2 * l.v

abbrev pub decreases-write_subtree : goal.decreases-write_subtree
decreases-write_subtree l = 2 * l.v + 1
