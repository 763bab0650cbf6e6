-- `own_rebuild::rebuild_packed` meets its contract: bytes of the right length are a table, and `rebuild_checked`
-- rebuilds it.
use mathlib.Core.Path.{◌≡◌, ap, ◌∙◌}
use mathlib.Core.Option.{none}
use Prim.Native.Nat.{◌-◌, ◌*◌}
use lib.ListN.{length}
use Rattle.limits.specs.declared.Kind.TheVariants.{Counts}
use Rattle.refusals.specs.Refusals.{outcome_of}
use Rattle.refusals.proofs.Answers.{call_passed, unless_told, unless_none}
use Rattle.checks.proofs.Sizes.{RightSizes}
use Rattle.packed_tables.specs.Packed.{table_with, packed_cells}
use Rattle.packed_tables.proofs.PackedIsTable.{sheet_is_table}
use Rattle.packed_tables.proofs.Sizes.{packed_passes}
use Rattle.rebuild_answers.specs.Operations.{packed_refusal, packed_answer}
use Rattle.rebuild_answers.proofs.RebuildRefusals.{packed_as_due, packed_right}
use Rattle.eligible_pairs.specs.inner.Lent.{table_in}
use Rattle.eligible_pairs.proofs.Lent.{as_packed}
use Rattle.own_rebuild.proofs.rebuild_packed.Goals.{After-judge_sizes, In_ok-judge_sizes}
use Rattle.own_rebuild.proofs.rebuild_packed.Goals as goal

-- what was judged
judged :
    (c : After-judge_sizes)
    → let a = c.args in
    c.judge_sizes.result ≡ outcome_of (packed_refusal a.n a.packed.now (length a.out.now))
judged c =
    let due = c.packed_bytes.ensures in
    c.judge_sizes.ensures ∙ ap outcome_of (packed_as_due _ _ _ _ _ due c.listing_numbers.ensures)

pub returns-in_err-judge_sizes : goal.returns-in_err-judge_sizes
unfolding packed_answer
returns-in_err-judge_sizes c =
    let told = judged (goal.at.returns-in_err-judge_sizes c).After-judge_sizes in
    let t = unless_told _ _ c.args.out.now _ told c.in_err-judge_sizes.was c.from_residual.ensures in
    record { answer = t.0; buffer = t.1 }

-- nothing was refused
passed :
    (c : In_ok-judge_sizes)
    → let a = c.args in
    packed_refusal a.n a.packed.now (length a.out.now) ≡ none
passed c =
    let due = c.packed_bytes.ensures in
    call_passed _
    (c.judge_sizes.ensures ∙ ap outcome_of (packed_as_due _ _ _ _ _ due c.listing_numbers.ensures))
    c.in_ok-judge_sizes.was

right :
    (c : In_ok-judge_sizes)
    → let a = c.args in
    RightSizes Counts a.n (a.n * (a.n - 1)) (length a.packed.now) (2 * (a.n - 2)) (length a.out.now)
right c = packed_right _ _ _ (passed c)

-- the bytes are a packed table
packed_meant :
    (c : In_ok-judge_sizes)
    → let a = c.args in
    table_in a.n a.packed.now ≡ table_with a.n (packed_cells a.n a.packed.now)
packed_meant c = as_packed _ _ (packed_passes _ _ ((right c).count, (right c).long))

pub rebuild_checked-requires : goal.rebuild_checked-requires
rebuild_checked-requires c = (
  (right (goal.at.rebuild_checked-requires c).In_ok-judge_sizes).count,
  rw (packed_meant (goal.at.rebuild_checked-requires c).In_ok-judge_sizes) (sheet_is_table _ _),
  (right (goal.at.rebuild_checked-requires c).In_ok-judge_sizes).enough,
)

pub returns : goal.returns
unfolding packed_answer
returns c =
    let told = rw (packed_meant (goal.at.returns c).In_ok-judge_sizes) at c.rebuild_checked.ensures in
    let t = unless_none _ _ _ _ _ (passed (goal.at.returns c).In_ok-judge_sizes) (told.answer, told.buffer) in
    record { answer = t.0; buffer = t.1 }
