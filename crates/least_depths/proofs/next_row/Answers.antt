-- `least_depths::next_row` meets its contract: the first row is found, and each other is moved on from the one before.
use Rattle.least_depths.proofs.LeastDepths.{topped}
use Rattle.least_depths.proofs.next_row.Goals as goal

pub returns : goal.returns
returns c =
    let left = c.move_left.ensures in
    let own = c.keep_own.ensures in (
      own.0,
      topped c.move_right.new.tops c.move_left.new.tops c.requires.0 c.requires.1 c.move_left.array_long
          c.move_right.ensures.0 left.0 left.1 (rw own.0 at own.1),
    )
