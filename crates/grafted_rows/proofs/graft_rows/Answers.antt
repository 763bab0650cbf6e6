-- `grafted_rows::graft_rows` meets its contract: under the last node of the standard listing stands the whole tree.
use Rattle.grafted_rows.proofs.GraftedSubtrees.{whole_fits, whole_written}
use Rattle.grafted_rows.proofs.graft_rows.Goals as goal

pub write_subtree-requires : goal.write_subtree-requires
write_subtree-requires c =
    let p = c.requires in
    let fits = whole_fits _ _ _ p.0 p.1 p.2 _ _ c.standard_rows.ensures p.3 in
    record { tree = _; first = _; fits = fits }

pub returns : goal.returns
returns c =
    let p = c.requires in
    let fits = whole_fits _ _ _ p.0 p.1 p.2 _ _ c.standard_rows.ensures p.3 in
    whole_written _ _ _ p.0 p.1 p.2 (c.write_subtree.ensures _ _ fits) p.3
