-- `nearest_pairs::better` meets its contract. The pair taken first once those of one more label are looked at.
use mathlib.Core.Path.{refl}
use lib.ListN.{get_or}
use Rattle.nearest_pairs.specs.inner.Nearest.{Partner}
use Rattle.nearest_pairs.proofs.Search.{pair_fits, pair_small, best_small, rows_skip, rows_turn}
use Rattle.nearest_pairs.proofs.better.Goals.{Else-arrays-i}
use Rattle.nearest_pairs.proofs.better.Goals as goal

-- i is a label, and has its partner
partner :
    (c : Else-arrays-i)
    → let a = c.args in
    Partner a.n a.arrays.now.label a.arrays.now.sizes a.sums.now a.i (get_or a.partners.now a.i 0)
partner c = c.requires.1 _ c.requires.2 c.if-arrays-i.false

pub returns : goal.returns
returns c =
    rows_turn c.requires.0 c.requires.3 (partner (goal.at.returns c).Else-arrays-i) c.if-j-n.false
    (rw c.pair_of.ensures at c.smaller.ensures)
