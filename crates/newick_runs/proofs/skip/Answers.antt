-- `newick_runs::skip` meets its contract: the bytes before j all leave the reader where it is.
use mathlib.Core.Path.{◌≡◌, sym, ◌∙◌}
use native.Mathlib.Omega.{arith}
use lib.ListN.{length}
use Rattle.newick_runs.proofs.Runs.{passed_none, passed_more}
use Rattle.newick_runs.proofs.skip.Goals as goal

pub loop-j-init : goal.loop-j-init
loop-j-init c = passed_none _ c.requires

pub returns-then-not-keeps_state : goal.returns-then-not-keeps_state
returns-then-not-keeps_state c = c.loop-j.invariant

pub loop-j-preserved : goal.loop-j-preserved
loop-j-preserved c =
    passed_more c.loop-j.invariant c.loop-j-test.true
    (sym c.keeps_state.ensures ∙ c.if-not-keeps_state.false)

pub returns : goal.returns
returns c =
    let end : c.loop-j.j ≡ length c.args.text.now = omega (arith, c.loop-j-test.false, c.loop-j.invariant.high) in
    rw end at c.loop-j.invariant
