-- `sheet_trees::bytes::write_bytes` meets its contract: after k turns the bytes of the first k numbers are at the front
-- of the buffer.
use mathlib.Core.Path.{◌≡◌}
use Prim.Native.Nat.{◌*◌}
use Rattle.base.specs.Lists.{filled}
use Rattle.sheet_trees.proofs.InBytes.{byte_rule}
use Rattle.sheet_trees.proofs.bytes.write_bytes.Given as goal

abbrev pub invariant-loop-k : goal.invariant-loop-k
invariant-loop-k l = l.out ≡ filled (2 * l.k) (byte_rule l.numbers) l.initial.out
