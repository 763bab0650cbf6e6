-- `sets::words::to_bytes` meets its contract: before turn i the first i bytes are the set's.
use Prim.Native.Nat.{◌<◌}
use native.Mathlib.Omega.{arith}
use lib.ListN.{length, length-set}
use Rattle.base.specs.Bits.{cells}
use Rattle.base.proofs.Filling.{known_more, known_whole}
use Rattle.limits.specs.Limits.{set_bytes}
use Rattle.sets.proofs.WordSets.{byte_below}
use Rattle.sets.proofs.words.to_bytes.Invariants.{byte}
use Rattle.sets.proofs.words.to_bytes.Goals as goal

pub loop-i-preserved : goal.loop-i-preserved
loop-i-preserved c =
    let l = c.loop-i in
    let w = c.args.w in
    let room : l.i < length l.r = omega arith in (
      omega arith,
      rw length-set l.invariant.1,
      known_more (byte w) 0 l.r l.i _ room (byte_below w l.i) l.invariant.2,
    )

pub returns : goal.returns
unfolding cells
returns c =
    let l = c.loop-i in
    known_whole (byte c.args.w) 0 l.r set_bytes l.invariant.1 (λ i h. l.invariant.2 i (omega arith))
