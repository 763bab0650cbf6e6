-- `sheet_trees::tree_of` meets its contract: the bytes between the offset and the trailer are the sheet's table,
-- packed.
use lib.ListN.{length}
use Rattle.sheet_trees.proofs.SheetTree.{rebuilt_in_place}
use Rattle.sheet_trees.proofs.tree_of.Goals as goal

pub returns : goal.returns
returns c =
    let tree = rebuilt_in_place c.args.sheet.now (length c.args.listing.now) c.cells.ensures.kept c.requires in
    rw (c.leaves.ensures.0, c.cells.ensures.cells, tree) at c.rebuild_packed.ensures
