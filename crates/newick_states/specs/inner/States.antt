-- The states of code as the numbers of newick_reading's places. No public contract cites this.
use Rattle.std.specs.Prelude.{ℕ, Option, None, Some}
use Rattle.newick_states.specs.declared.State.{State}
use Rattle.newick_states.specs.declared.State.TheVariants.{Due, InName, Behind, BehindLength, AtLength, InLength, Ended}

abbrev pub number_of : State → ℕ
number_of Due = 0
number_of InName = 1
number_of Behind = 2
number_of BehindLength = 3
number_of AtLength = 4
number_of InLength = 5
number_of Ended = 6

-- behind a byte; 7 where it breaks the text
abbrev pub number_behind : Option State → ℕ
number_behind None = 7
number_behind (Some s) = number_of s
