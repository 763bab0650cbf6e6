-- `gap_sums::add_columns` meets its contract. The loop's invariant: each label has the columns passed that are its.
use mathlib.Core.Path.{◌≡◌, ◌∙◌}
use native.Mathlib.Omega.{arith}
use lib.ListN.{get_or-replicate, length-set, get_or}
use Rattle.base.specs.Numbers.{sum_below}
use Rattle.limits.specs.Limits.{most_leaves}
use Rattle.gap_sums.proofs.Columns.{label_small, label_turn}
use Rattle.gap_sums.proofs.add_columns.Goals as goal

pub loop-y-init : goal.loop-y-init
unfolding sum_below
loop-y-init c =
    (omega arith, rw c.requires.3, λ k l. rw c.requires.3 (get_or-replicate most_leaves k 0 0 (omega arith)))

pub overflow_add-sums : goal.overflow_add-sums
overflow_add-sums c =
    let l = c.loop-y in
    let a = c.args in
    let b = get_or a.label.now l.y 0 in
    omega (
      arith,
      l.invariant.2 b (c.requires.1 l.y (omega arith)),
      label_small a.label.now a.columns.now l.y b c.requires.2 c.requires.0 (omega arith),
    )

pub loop-y-preserved : goal.loop-y-preserved
loop-y-preserved c =
    let l = c.loop-y in
    let a = c.args in
    let in-sums = c.requires.1 l.y (omega arith) in (
      omega arith,
      length-set l.sums _ _ ∙ l.invariant.1,
      λ k lk.
          label_turn a.label.now a.columns.now l.sums l.y (omega (arith, in-sums, l.invariant.1, c.requires.0)) k
          (l.invariant.2 k lk),
    )
