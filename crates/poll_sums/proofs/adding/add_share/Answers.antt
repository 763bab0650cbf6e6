-- `poll_sums::adding::add_share` meets its contract: the cell stands among the sums, and no other cell is written.
use native.Mathlib.Omega.{arith}
use borrow.Author.Rules.{rules}
use lib.ListN.{length-set}
use Rattle.trees.specs.Tables.{cell}
use Rattle.poll_sums.proofs.Sums.{cells_fit, grown_cell}
use Rattle.poll_sums.proofs.adding.add_share.Goals as goal

pub overflow_add-sums : goal.overflow_add-sums
unfolding cell
overflow_add-sums c = let p = c.requires in omega (arith, rw (← p.0.2) at p.3)

pub returns : goal.returns
returns c =
    let a = c.args in
    let p = c.requires in
    let room = cells_fit a.n p.1 in (
      simp length-set (search rules),
      rw p.0.2
          (grown_cell a.n a.sums.now a.to.row a.to.column a.share p.0.0 p.0.1 (omega (arith, room, p.2))),
    )
