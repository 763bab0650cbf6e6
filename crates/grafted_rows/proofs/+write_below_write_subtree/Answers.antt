-- `grafted_rows::write_below` and `write_subtree` meet their contracts: the rows of the two children and the node's own
-- row make up its post-order, a leaf has none, and the new leaf has one more.
use native.Mathlib.Omega.{arith}
use Rattle.grafted_rows.proofs.Blocks.{block_below, block_split}
use Rattle.grafted_rows.proofs.GraftedSubtrees.{leaf_rows_written, first_rows_fit, second_rows_fit, own_row_fits}
use Rattle.grafted_rows.proofs.GraftedSubtrees.{node_rows_written, below_fits, subtree_written, new_row_fits}
use Rattle.grafted_rows.proofs.GraftedSubtrees.{grafted_written}
use Rattle.grafted_rows.proofs.+write_below_write_subtree.Goals as goal

pub write_below-returns-then-v-n : goal.write_below-returns-then-v-n
write_below-returns-then-v-n t c = λ X r g. leaf_rows_written _ g c.if-v-n.true

pub write_below-children-c-requires : goal.write_below-children-c-requires
write_below-children-c-requires t c =
    let g = c.requires.fits in
    (c.if-v-n.false, omega (arith, g.count, block_below _ g.block (omega (arith, g.count)), c.if-v-n.false))

pub write_below-write_subtree-a-requires : goal.write_below-write_subtree-a-requires
write_below-write_subtree-a-requires t c =
    let g = c.requires in
    let two = c.children-c.ensures in
    let w = block_split g.tree g.fits.block c.if-v-n.false two.first two.second in (
      omega (arith, c.decreases, w.first_low),
      record { tree = w.left; first = g.first; fits = first_rows_fit _ g.fits w },
    )

pub write_below-write_subtree-b-requires : goal.write_below-write_subtree-b-requires
write_below-write_subtree-b-requires t c =
    let g = c.requires in
    let two = c.children-c.ensures in
    let w = block_split g.tree g.fits.block c.if-v-n.false two.first two.second in
    let done = c.write_subtree-a.ensures w.left g.first (first_rows_fit _ g.fits w) in (
      omega (arith, c.decreases, w.second_low),
      record { tree = w.right; first = _; fits = second_rows_fit _ g.fits w done },
    )

pub write_below-write_row-requires : goal.write_below-write_row-requires
write_below-write_row-requires t c =
    let g = c.requires in
    let two = c.children-c.ensures in
    let w = block_split g.tree g.fits.block c.if-v-n.false two.first two.second in
    let first = c.write_subtree-a.ensures _ _ (first_rows_fit _ g.fits w) in
    let second = c.write_subtree-b.ensures _ _ (second_rows_fit _ g.fits w first) in
    own_row_fits _ g.fits w first second

pub write_below-returns : goal.write_below-returns
write_below-returns t c = λ X r g.
    let two = c.children-c.ensures in
    let w = block_split X g.block c.if-v-n.false two.first two.second in
    let first = c.write_subtree-a.ensures _ _ (first_rows_fit _ g w) in
    let second = c.write_subtree-b.ensures _ _ (second_rows_fit _ g w first) in
    let e = c.write_row.ensures in
    rw (e.row, e.next, e.number) (node_rows_written _ g w first second)

pub write_subtree-write_below-w-requires : goal.write_subtree-write_below-w-requires
write_subtree-write_below-w-requires t c =
    let g = c.requires in
    (omega (arith, c.decreases), record { tree = g.tree; first = g.first; fits = below_fits _ g.fits })

pub write_subtree-returns-then-v-edge : goal.write_subtree-returns-then-v-edge
write_subtree-returns-then-v-edge t c = λ X r g.
    subtree_written _ g (c.write_below-w.ensures X r (below_fits _ g)) c.if-v-edge.true

pub write_subtree-write_row-requires : goal.write_subtree-write_row-requires
write_subtree-write_row-requires t c =
    let g = c.requires in
    new_row_fits _ g.fits (c.write_below-w.ensures _ _ (below_fits _ g.fits)) c.if-v-edge.false

pub write_subtree-returns : goal.write_subtree-returns
write_subtree-returns t c = λ X r g.
    let e = c.write_row.ensures in
    rw (e.row, e.next, e.number)
    (grafted_written _ g (c.write_below-w.ensures X r (below_fits _ g)) c.if-v-edge.false)
