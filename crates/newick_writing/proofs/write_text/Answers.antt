-- `newick_writing::write_text` meets its contract: once the children stand in order, how the text begins, the
-- children of the last node and how it ends are put one behind the other.
use Rattle.newick_writing.proofs.Putting.{front_fits, last_fits, end_fits, text_put}
use Rattle.newick_writing.proofs.write_text.Goals as goal

pub put_front-a-requires : goal.put_front-a-requires
put_front-a-requires c =
    front_fits c.requires

pub put_pair-b-requires : goal.put_pair-b-requires
put_pair-b-requires c =
    let f = c.requires in
    (_, last_fits f c.order_rows.ensures c.put_front-a.ensures)

pub put_end-requires : goal.put_end-requires
put_end-requires c =
    let f = c.requires in
    let order = c.order_rows.ensures in
    let begun = c.put_front-a.ensures in
    end_fits f order begun (c.put_pair-b.ensures _ (last_fits f order begun))

pub returns : goal.returns
returns c =
    let f = c.requires in
    let order = c.order_rows.ensures in
    let begun = c.put_front-a.ensures in
    let paired = c.put_pair-b.ensures _ (last_fits f order begun) in
    text_put f order begun paired c.put_end.ensures
