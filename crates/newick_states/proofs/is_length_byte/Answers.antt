-- `newick_states::is_length_byte` meets its contract: from the first byte to the last a bit decides.
use native.Mathlib.Omega.{arith}
use Rattle.newick_states.proofs.LengthBytes.{length_within}
use Rattle.newick_states.proofs.is_length_byte.Goals as goal

pub returns-then-b-le101 : goal.returns-then-b-le101
returns-then-b-le101 c = length_within c.args.b (omega arith) (omega arith)
