-- `standard_listings::write_node` and `write_subtree` meet their contracts: the rows of the two children and the
-- node's own row make up its post-order, and a leaf has none.
use native.Mathlib.Omega.{arith}
use Rattle.standard_listings.proofs.SubtreeRows.{split_at, leaf_rows_written, first_rows_fit}
use Rattle.standard_listings.proofs.SubtreeRows.{second_rows_fit, row_fits, node_rows_written}
use Rattle.standard_listings.proofs.+write_node_write_subtree.Goals as goal

pub write_node-write_subtree-t-requires : goal.write_node-write_subtree-t-requires
write_node-write_subtree-t-requires t c =
    let g = c.requires.1 in
    let w = split_at g.fits c.requires.0 c.children-c.ensures.first c.children-c.ensures.second in
    (omega (arith, c.decreases, w.first_low), record { listing = g.listing; fits = first_rows_fit g.fits w })

pub write_node-write_subtree-r-requires : goal.write_node-write_subtree-r-requires
write_node-write_subtree-r-requires t c =
    let g = c.requires.1 in
    let w = split_at g.fits c.requires.0 c.children-c.ensures.first c.children-c.ensures.second in
    let done = c.write_subtree-t.ensures g.listing (first_rows_fit g.fits w) in
    (omega (arith, c.decreases, w.second_low), record { listing = g.listing; fits = second_rows_fit g.fits w done })

pub write_node-write_row-requires : goal.write_node-write_row-requires
write_node-write_row-requires t c =
    let g = c.requires.1 in
    let w = split_at g.fits c.requires.0 c.children-c.ensures.first c.children-c.ensures.second in
    let first = c.write_subtree-t.ensures g.listing (first_rows_fit g.fits w) in
    row_fits g.fits w first (c.write_subtree-r.ensures g.listing (second_rows_fit g.fits w first))

pub write_node-overflow_add-result : goal.write_node-overflow_add-result
write_node-overflow_add-result t c =
    let g = c.requires.1 in
    let w = split_at g.fits c.requires.0 c.children-c.ensures.first c.children-c.ensures.second in
    let first = c.write_subtree-t.ensures g.listing (first_rows_fit g.fits w) in
    let row = row_fits g.fits w first (c.write_subtree-r.ensures g.listing (second_rows_fit g.fits w first)) in
    omega (arith, row.count, row.second_ends)

pub write_node-returns : goal.write_node-returns
write_node-returns t c = λ l g.
    let w = split_at g c.requires.0 c.children-c.ensures.first c.children-c.ensures.second in
    let first = c.write_subtree-t.ensures l (first_rows_fit g w) in
    let second = c.write_subtree-r.ensures l (second_rows_fit g w first) in
    rw c.write_row.ensures (node_rows_written g w first second)

pub write_subtree-returns-then-v-n : goal.write_subtree-returns-then-v-n
write_subtree-returns-then-v-n t c = λ l g. leaf_rows_written g c.if-v-n.true
