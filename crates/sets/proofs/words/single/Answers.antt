-- `sets::words::single` meets its contract: each word is that of the set.
use Rattle.std.proofs.Common.{rules}
use Prim.Native.Nat.{◌+◌, ◌*◌}
use Rattle.base.specs.Bits.{from_bits, cells}
use Rattle.base.proofs.Filling.{known_whole}
use Rattle.limits.specs.Limits.{set_words}
use Rattle.trees.specs.Trees.{leaf, leaves}
use Rattle.sets.proofs.words.single.Goals as goal

pub returns : goal.returns
unfolding cells
returns c =
    let made = c.each_word.ensures in
    known_whole (λ i. from_bits 64 (λ t. leaves (leaf c.args.k) (64 * i + t))) 0 c.each_word.result set_words made.0
    (λ i h. let m = made.1 i h in search (rules, m))
