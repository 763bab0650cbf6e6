-- `newick_writing::put_bytes` meets its contract: what is left to put, put behind what is put, is the whole.
use mathlib.Core.Path.{refl, sym, ◌∙◌}
use native.Mathlib.Omega.{arith}
use lib.ListN.{length-set}
use Rattle.newick_writing.proofs.Putting.{left_more, left_whole, left_none}
use Rattle.newick_writing.proofs.put_bytes.Goals as goal

pub loop-k-init : goal.loop-k-init
loop-k-init c = let a = c.args in (refl, left_whole a.sheet.now a.from a.many a.at a.text.now)

pub loop-k-preserved : goal.loop-k-preserved
loop-k-preserved c =
    let a = c.args in
    let l = c.loop-k in
    let more = left_more a.sheet.now a.from a.many a.at l.text l.k (omega arith) (omega arith) in
    (length-set l.text _ _ ∙ l.invariant.0, more ∙ l.invariant.1)

pub returns : goal.returns
returns c =
    let a = c.args in
    let l = c.loop-k in
    sym (left_none a.sheet.now a.from a.many a.at l.text l.k (omega arith)) ∙ l.invariant.1
