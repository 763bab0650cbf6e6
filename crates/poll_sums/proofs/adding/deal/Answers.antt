-- `poll_sums::adding::deal` meets its contract: the three numbers in one are no more than it, so that there is room.
use Rattle.poll_sums.proofs.Sums.{grown_dealt}
use Rattle.poll_sums.proofs.adding.deal.Goals as goal

pub returns : goal.returns
returns c =
    let a = c.args in
    let e = c.add_share.ensures in
    let f = c.add_share-2.ensures in
    let g = c.add_share-3.ensures in
    (g.0, grown_dealt a.n _ _ _ _ _ _ a.w a.sums.now _ _ _ e.1 f.1 g.1)
