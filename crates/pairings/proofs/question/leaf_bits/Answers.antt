-- `pairings::question::leaf_bits` meets its contract: the four leaves are different, so no store changes another's bit.
use mathlib.Core.Path.{◌≡◌, refl, ◌∙◌}
use Prim.Native.Nat.{ℕ, ◌*◌, ◌%◌, ◌^◌, ◌≤◌}
use native.Mathlib.Nat.{one-mul}
use native.Mathlib.Numerals.{add-one}
use native.Mathlib.Omega.{arith}
use lib.ListN.{length, replicate, length-replicate, get_or-replicate}
use lib.Pow.{shl_exact}
use Rattle.limits.specs.Limits.{most_nodes}
use Rattle.pairings.proofs.Questions.{question_below, question_four}
use Rattle.pairings.proofs.Sides.{puts, bits_put}
use Rattle.pairings.proofs.question.leaf_bits.Goals as goal

-- the array before a leaf is put
long : length {A = ℕ} (replicate most_nodes 0) ≡ most_nodes
long = length-replicate {A = ℕ} most_nodes 0

pub loop-i-init : goal.loop-i-init
unfolding puts
loop-i-init c = refl

pub bounds-under-from : goal.bounds-under-from
bounds-under-from c =
    omega (arith, c.from.ensures, question_below c.args.n c.args.q c.requires.1 c.loop-i.i (omega arith))

pub loop-i-preserved : goal.loop-i-preserved
unfolding puts
loop-i-preserved c =
    let i = c.loop-i.i in
    let bit : 1 * 2 ^ i % 2 ^ 8 ≡ 2 ^ i = shl_exact {a = 1} 1 i 8 (omega arith) (omega arith) ∙ one-mul _ in
    rw (add-one i, ← c.loop-i.invariant, c.from.ensures, bit)

pub returns : goal.returns
returns c =
    let a = c.args in
    let all : c.loop-i.i ≡ 4 = omega arith in
    let few : a.n ≤ most_nodes = omega (arith, c.requires.0) in
    let four = question_four a.n a.q (omega arith) c.requires.1 in
    rw (c.loop-i.invariant, all)
    (bits_put a.q _ long a.n few (λ k l. get_or-replicate {A = ℕ} most_nodes k 0 0 (omega arith)) four)
