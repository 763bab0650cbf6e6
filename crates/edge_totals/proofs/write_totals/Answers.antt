-- `edge_totals::write_totals` meets its contract: the totals move by the weights, and are spread from the last edge.
use mathlib.Core.Path.{ap, ◌∙◌}
use native.Mathlib.Omega.{arith}
use Prim.Native.Nat.{ℕ, ◌+◌, ◌*◌, ◌^◌, ◌<◌}
use lib.ListN.{length}
use Rattle.base.proofs.Filling.{length_filled}
use Rattle.trees.specs.Tables.{cell}
use Rattle.edge_weights.proofs.RowGaps.{tables_fit}
use Rattle.edge_totals.proofs.AllTotals.{filled_store, totals_move, at_last, spread_ready}
use Rattle.edge_totals.proofs.write_totals.Goals.{After-weigh_rows}
use Rattle.edge_totals.proofs.write_totals.Goals as goal

-- a cell is a number of 32 bits
cells :
    (c : After-weigh_rows) (i j : ℕ)
    → (let a = c.args in
    cell (a.n + 1) a.new.now i j < 2 ^ 32)
unfolding cell
cells c i j =
    omega (arith, c.type_inv.new (i * (c.args.n + 1) + j))

pub spread_totals-requires : goal.spread_totals-requires
spread_totals-requires c =
    let p = c.requires in
    spread_ready p.0 c.weigh_rows.ensures (cells (goal.at.spread_totals-requires c).After-weigh_rows) c.args.out.now
    c.args.last p.1 p.2

pub returns : goal.returns
returns c =
    let p = c.requires in
    let weights = c.weigh_rows.ensures in
    c.spread_totals.ensures _ (totals_move p.0 weights (cells (goal.at.returns c).After-weigh_rows))
    (at_last p.0 weights (cells (goal.at.returns c).After-weigh_rows) c.args.out.now c.args.last p.1 ∙ p.2)
    ∙ filled_store _ _ _ _ _ (omega (arith, p.0.count))

pub shape_of-out : goal.shape_of-out
shape_of-out c =
    ap length (returns c) ∙ length_filled _ _ _ c.requires.1

pub invariant_of-t : goal.invariant_of-t
invariant_of-t c = record { fit = tables_fit c.requires.0 }
