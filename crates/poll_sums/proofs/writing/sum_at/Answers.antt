-- `poll_sums::writing::sum_at` meets its contract: the smaller of the two numbers names the row.
use Rattle.poll_sums.proofs.Sums.{mirrored_place}
use Rattle.poll_sums.proofs.writing.sum_at.Goals as goal

pub returns : goal.returns
returns c =
    let a = c.args in
    rw (c.min.ensures, c.max.ensures) (mirrored_place a.n a.sums.now a.row a.column)
