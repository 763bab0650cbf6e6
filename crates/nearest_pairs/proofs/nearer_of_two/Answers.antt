-- `nearest_pairs::nearer_of_two` meets its contract. Which of two labels has the pair with a third that is taken first.
use Rattle.nearest_pairs.proofs.Search.{pair_fits, pair_small, nearer_is}
use Rattle.nearest_pairs.proofs.nearer_of_two.Goals as goal

pub returns : goal.returns
returns c =
    nearer_is c.requires.0 c.requires.1 c.requires.2 c.requires.3
    (rw (c.pair_of.ensures, c.pair_of-2.ensures) at c.smaller.ensures)
