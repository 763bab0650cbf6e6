-- `newick_writing::put_front` meets its contract: a bracket, leaf 0's name and a comma, one behind the other.
use Rattle.newick_writing.proofs.Putting.{front_open, front_name, front_comma, front_put}
use Rattle.newick_writing.proofs.put_front.Goals as goal

pub put-a-requires : goal.put-a-requires
put-a-requires c = front_open c.requires

pub put_name-b-requires : goal.put_name-b-requires
put_name-b-requires c =
    front_name c.requires c.put-a.ensures

pub put-requires : goal.put-requires
put-requires c =
    front_comma c.requires c.put-a.ensures c.put_name-b.ensures

pub returns : goal.returns
returns c =
    front_put c.requires c.put-a.ensures c.put_name-b.ensures c.put.ensures
