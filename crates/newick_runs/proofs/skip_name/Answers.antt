-- `newick_runs::skip_name` meets its contract: the bytes before j are a name's, and h is its hash behind them.
use mathlib.Core.Path.{◌≡◌, sym, ◌∙◌}
use native.Mathlib.Omega.{arith}
use lib.ListN.{length}
use Rattle.newick_runs.proofs.Runs.{named_none, named_more}
use Rattle.newick_runs.proofs.skip_name.Goals as goal

pub loop-j-init : goal.loop-j-init
loop-j-init c = named_none c.requires.0 c.requires.1

pub returns-then-not-is_name_byte : goal.returns-then-not-is_name_byte
returns-then-not-is_name_byte c = c.loop-j.invariant

pub hash_byte-h-requires : goal.hash_byte-h-requires
hash_byte-h-requires c = c.loop-j.invariant.small

pub loop-j-preserved : goal.loop-j-preserved
loop-j-preserved c =
    let h = c.hash_byte-h.ensures in
    named_more c.loop-j.invariant c.loop-j-test.true
    (sym c.is_name_byte.ensures ∙ c.if-not-is_name_byte.false) _ h.0 h.1

pub returns : goal.returns
returns c =
    let inv = c.loop-j.invariant in
    let end : c.loop-j.j ≡ length c.args.text.now = omega (arith, c.loop-j-test.false, inv.passed.high) in
    rw end at inv
