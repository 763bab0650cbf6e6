-- `newick_writing::put_end` meets its contract: a bracket, and behind it a semicolon.
use Rattle.newick_writing.proofs.Putting.{end_put}
use Rattle.newick_writing.proofs.put_end.Goals as goal

pub returns : goal.returns
returns c =
    end_put c.put-a.ensures c.put.ensures
