-- `nearest_pairs::nearer` meets its contract. The pair of a label that is taken first once one label more is looked at.
use Rattle.nearest_pairs.specs.inner.Nearest.{TwoLabels}
use Rattle.nearest_pairs.proofs.Search.{pair_fits, pair_small, best_small, row_skip, row_turn}
use Rattle.nearest_pairs.proofs.nearer.Goals.{Then-arrays-j}
use Rattle.nearest_pairs.proofs.nearer.Goals as goal

-- i and j are labels
found :
    (c : Then-arrays-j)
    → let a = c.args in
    TwoLabels a.n a.arrays.now.label a.i a.j
found c =
    record {
      rising = c.requires.2;
      below = c.requires.3;
      own_first = c.requires.1;
      own_second = c.if-arrays-j.true;
    }

pub returns-then-arrays-j : goal.returns-then-arrays-j
returns-then-arrays-j c =
    row_turn c.requires.0 c.requires.4 (found (goal.at.returns-then-arrays-j c).Then-arrays-j)
    (rw c.pair_of.ensures at c.smaller.ensures)
