-- `gap_sums::add_row_of` meets its contract: a leaf outside of the subtree adds nothing.
use mathlib.Core.Path.{ap, ◌∙◌}
use Prim.Native.Nat.{ℕ}
use native.Mathlib.Omega.{arith}
use lib.ListN.{length, get_or}
use Rattle.base.proofs.Filling.{length_filled, getD_filled}
use Rattle.gap_sums.proofs.Columns.{gap_out, gap_within}
use Rattle.gap_sums.proofs.add_row_of.Goals as goal

pub returns-then-arrays-x : goal.returns-then-arrays-x
returns-then-arrays-x c =
    let few = c.requires.5.long in
    let put = c.add_row.ensures in (
      ap length put ∙ length_filled _ _ c.args.n (omega (arith, few, c.requires.0)) ∙ few,
      λ y l.
          ap (λ k. get_or k y 0) put ∙ getD_filled {A = ℕ} _ _ c.args.n y 0 l
          ∙ rw (c.row_of.ensures.cells y l, gap_within _ _ _ _ _ _ y _ c.if-arrays-x.true),
    )

pub returns-else-arrays-x : goal.returns-else-arrays-x
returns-else-arrays-x c =
    (c.requires.5.long, λ y l. rw (gap_out _ _ _ _ _ _ y _ c.if-arrays-x.false) (omega arith))
