-- `gap_sums::renew` meets its contract: the columns of each subtree add up to its gaps.
use mathlib.Core.Path.{refl, ◌∙◌}
use native.Mathlib.Omega.{arith}
use lib.ListN.{get_or-replicate}
use Rattle.limits.specs.Limits.{most_leaves}
use Rattle.gap_sums.proofs.Columns.{due_small, labels_small, columns_sum, stored_as}
use Rattle.gap_sums.proofs.renew.Goals as goal

pub find_columns-requires : goal.find_columns-requires
find_columns-requires c = (
  c.requires.1.few,
  c.requires.0,
  c.requires.1.small,
  due_small c.requires.1 c.fill_due.ensures,
  refl,
  λ y l. get_or-replicate most_leaves y 0 0 (omega (arith, c.requires.1.few)),
)

pub store-requires : goal.store-requires
store-requires c =
    let f = c.requires.1 in (
      f.few,
      f.first,
      c.requires.2,
      λ k l.
          rw (c.add_columns.ensures k l)
          (labels_small c.args.arrays.now.label k c.find_columns.ensures.few f.few),
    )

pub returns : goal.returns
returns c =
    stored_as (λ k l d. c.add_columns.ensures k l
    ∙ columns_sum c.requires.1 c.fill_due.ensures c.find_columns.ensures k d) c.store.ensures
