-- `pair_counts::pair_counts` meets its contract: one test, computed over the whole table, carries P(k) to each entry.
use mathlib.Core.Path.{refl}
use Rattle.base.specs.Lists.{tab}
use Rattle.pair_counts.specs.Pairs.{P}
use Rattle.pair_counts.proofs.pair_counts.Goals as goal

pub returns : goal.returns
unfolding tab P
returns c = refl
