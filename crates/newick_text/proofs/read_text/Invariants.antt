-- `newick_text::read_text` meets its contract: what is kept of the bytes so far is what the laws of reading say, and
-- gives what is kept of one more and of the run behind it.
use Prim.Native.Nat.{◌-◌}
use lib.ListN.{length}
use Rattle.limits.specs.Limits.{IsLeafCount}
use Rattle.sheet_rules.specs.Sheets.{names_of}
use Rattle.newick_rules.specs.Operations.{Strains}
use Rattle.newick_states.specs.inner.States.{number_of}
use Rattle.newick_text.specs.inner.Names.{Indexed}
use Rattle.newick_text.specs.inner.Texts.{ReadTo}
use Rattle.newick_text.proofs.read_text.Given as goal

abbrev pub invariant-loop-k : goal.invariant-loop-k
invariant-loop-k l =
    Indexed l.names × IsLeafCount l.n × Strains l.n (names_of l.names.sheet)
    × ReadTo l.names.sheet l.text l.n (number_of l.state) l.depth l.from l.hash l.k l.kept l.seen

abbrev pub decreases-loop-k : goal.decreases-loop-k
decreases-loop-k l =
    length l.text - l.k
