-- `newick_writing::put_pair` and `put_part` meet their contracts: a leaf's text is its name, a node's a bracket
-- around those of its two children.
use native.Mathlib.Omega.{arith}
use Rattle.newick_writing.proofs.Putting.{children_are, first_fits, comma_fits, second_fits, pair_put}
use Rattle.newick_writing.proofs.Putting.{name_fits, leaf_put, open_fits, pair_fits, close_fits, node_put}
use Rattle.newick_writing.proofs.+put_pair_put_part.Goals as goal

pub put_pair-put_part-a-requires : goal.put_pair-put_part-a-requires
put_pair-put_part-a-requires t c =
    let f = c.requires.1 in
    let k = children_are f c.children-c.ensures.first c.children-c.ensures.second in
    (omega (arith, c.decreases, k.first_low), (c.requires.0, first_fits f k))

pub put_pair-put-b-requires : goal.put_pair-put-b-requires
put_pair-put-b-requires t c =
    let f = c.requires.1 in
    let k = children_are f c.children-c.ensures.first c.children-c.ensures.second in
    comma_fits f k (c.put_part-a.ensures c.requires.0 (first_fits f k))

pub put_pair-put_part-requires : goal.put_pair-put_part-requires
put_pair-put_part-requires t c =
    let f = c.requires.1 in
    let k = children_are f c.children-c.ensures.first c.children-c.ensures.second in
    let first = c.put_part-a.ensures c.requires.0 (first_fits f k) in
    (omega (arith, c.decreases, k.second_low), (c.requires.0, second_fits f k first c.put-b.ensures))

pub put_pair-returns : goal.put_pair-returns
put_pair-returns t c l f =
    let k = children_are f c.children-c.ensures.first c.children-c.ensures.second in
    let first = c.put_part-a.ensures l (first_fits f k) in
    let comma = c.put-b.ensures in
    pair_put f k first comma (c.put_part.ensures l (second_fits f k first comma))

pub put_part-put_name-requires : goal.put_part-put_name-requires
put_part-put_name-requires t c = name_fits c.requires.1 c.if-v-n.true

pub put_part-returns-then-v-n : goal.put_part-returns-then-v-n
put_part-returns-then-v-n t c l f = leaf_put f c.if-v-n.true c.put_name.ensures

pub put_part-put-a-requires : goal.put_part-put-a-requires
put_part-put-a-requires t c = open_fits c.requires.1 c.if-v-n.false

pub put_part-put_pair-b-requires : goal.put_part-put_pair-b-requires
put_part-put_pair-b-requires t c =
    (omega (arith, c.decreases), (c.requires.0, pair_fits c.requires.1 c.if-v-n.false c.put-a.ensures))

pub put_part-put-requires : goal.put_part-put-requires
put_part-put-requires t c =
    let f = c.requires.1 in
    let low = c.if-v-n.false in
    let opened = c.put-a.ensures in
    close_fits f low opened (c.put_pair-b.ensures c.requires.0 (pair_fits f low opened))

pub put_part-returns : goal.put_part-returns
put_part-returns t c l f =
    let low = c.if-v-n.false in
    let opened = c.put-a.ensures in
    node_put f low opened (c.put_pair-b.ensures l (pair_fits f low opened)) c.put.ensures
