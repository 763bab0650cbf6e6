-- `sheet_trees::bytes::write_bytes` meets its contract: after k turns the bytes of the first k numbers are at the front
-- of the buffer.
use mathlib.Core.Path.{◌≡◌, sym, ◌∙◌}
use Prim.Native.Nat.{suc, ◌+◌, ◌*◌}
use native.Mathlib.Omega.{arith}
use lib.ListN.{length}
use Rattle.base.proofs.Filling.{filled_none, filled_more}
use Rattle.sheet_trees.proofs.InBytes.{byte_rule, low_byte, high_byte, all_bytes}
use Rattle.sheet_trees.proofs.bytes.write_bytes.Goals as goal

pub loop-k-init : goal.loop-k-init
loop-k-init c = sym (filled_none _ _)

pub loop-k-preserved : goal.loop-k-preserved
loop-k-preserved c =
    let a = c.args in
    let k = c.loop-k.k in
    let rule = byte_rule a.numbers.now in
    let high : suc (2 * k) ≡ 2 * k + 1 = omega arith in
    let next : 2 * k + 1 + 1 ≡ 2 * (k + 1) = omega arith in
    let one =
    filled_more rule a.out.now c.loop-k.invariant (omega arith) (c.low_byte.ensures ∙ sym (low_byte a.numbers.now k)) in
    let two =
    filled_more rule a.out.now one (omega arith)
    (c.high_byte.ensures ∙ sym (rw high at (high_byte a.numbers.now k))) in
    rw next at two

pub returns : goal.returns
returns c =
    let all : c.loop-k.k ≡ length c.args.numbers.now = omega arith in
    (rw all at c.loop-k.invariant) ∙ all_bytes _ _
