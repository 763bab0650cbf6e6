-- `spanned_rows::number_leaves` meets its contract: the first k leaves are numbered.
use mathlib.Core.Path.{◌≡◌, refl}
use mathlib.Core.Bool.{Bool, true, false}
use mir.Val.{bool_byte}
use native.Mathlib.Omega.{arith}
use lib.ListN.{get_or}
use Rattle.base.specs.Numbers.{indicator}
use Rattle.spanned_rows.proofs.Arrays.{numbering_start, numbering_low, numbering_more, numbering_end}
use Rattle.spanned_rows.proofs.number_leaves.Goals as goal

-- a leaf that stays counts 1
counted : (b : Bool) → bool_byte b ≡ indicator b 1
counted true = refl
counted false = refl

pub loop-k-init : goal.loop-k-init
loop-k-init c = search numbering_start

pub leaf_number-requires : goal.leaf_number-requires
leaf_number-requires c =
    let N = c.loop-k.invariant in
    omega (arith, numbering_low N, N.few)

pub loop-k-preserved : goal.loop-k-preserved
loop-k-preserved c =
    numbering_more c.loop-k-test.true c.loop-k.invariant c.leaf_number.ensures
    (rw (c.from-m.ensures, counted (get_or c.args.marks.now c.loop-k.k false)))

pub returns : goal.returns
returns c =
    let end = numbering_end c.loop-k-test.false c.loop-k.invariant in
    record { count = end.0; each = end.1 }
