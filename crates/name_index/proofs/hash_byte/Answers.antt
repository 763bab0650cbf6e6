-- `name_index::hash_byte` meets its contract: the code is the definition.
use native.Mathlib.Nat.{mod-lt}
use native.Mathlib.Omega.{arith}
use Rattle.name_index.specs.inner.Hashes.{hash_step}
use Rattle.name_index.proofs.hash_byte.Goals as goal

pub returns : goal.returns
unfolding hash_step
returns c = (rw c.from.ensures, mod-lt _ (omega arith))
