-- `edge_weights::block` meets its contract: a block has the same gaps with its two sets exchanged.
use mathlib.Core.Path.{◌∙◌}
use Rattle.grafted_cells.proofs.Totals.{block_gap_turn}
use Rattle.edge_weights.proofs.block.Goals as goal

pub returns-then-columns-rows : goal.returns-then-columns-rows
returns-then-columns-rows c =
    let p = c.requires in
    let e = c.add_block.ensures in record {
      as_is = (e.as_is.0 ∙ block_gap_turn _ _ _ _ _ _ _ p.2 p.1, e.as_is.1);
      larger = (e.larger.0 ∙ block_gap_turn _ _ _ _ _ _ _ p.2 p.1, e.larger.1);
    }
