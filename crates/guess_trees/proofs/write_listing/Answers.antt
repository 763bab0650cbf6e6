-- `guess_trees::write_listing` meets its contract: our rebuild of the tree's own table writes its listing.
use mathlib.Core.Path.{ap, ◌∙◌}
use Rattle.limits.specs.Limits.{IsLeafCount}
use Rattle.limits.proofs.TableKinds.{leaf_count_of}
use Rattle.refusals.specs.Refusals.{written}
use Rattle.guess_trees.proofs.Listings.{front_table, front_rebuilt}
use Rattle.guess_trees.proofs.write_listing.Goals.{Start}
use Rattle.guess_trees.proofs.write_listing.Goals as goal

count : (c : Start) → IsLeafCount c.args.n
count c = leaf_count_of c.args.kind c.args.n c.requires.0

pub rebuild_checked-requires : goal.rebuild_checked-requires
rebuild_checked-requires c =
    (count (goal.at.rebuild_checked-requires c).Start, front_table c.write_tree_table.ensures _, c.requires.2)

pub returns : goal.returns
returns c =
    c.rebuild_checked.ensures.buffer
    ∙ ap (λ r. written r c.args.out.now) (front_rebuilt c.write_tree_table.ensures _)
