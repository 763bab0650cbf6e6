-- `splits::splits` meets its contract: nothing is written before `judge` is done; then the standard listing is made in
-- a local array, and the sets under its nodes are written.
use mathlib.Core.Path.{◌≡◌, ap, sym, ◌∙◌}
use Prim.Native.Nat.{◌-◌, ◌*◌}
use native.Mathlib.Omega.{arith}
use lib.ListN.{length, take, length-take}
use lib.Seq.{take_at}
use Rattle.limits.specs.Limits.{set_bytes}
use Rattle.refusals.proofs.Answers.{call_passed, call_refused, call_done}
use Rattle.trees.specs.Listings.{tree_of, standard}
use Rattle.trees.specs.Splits.{split_bytes}
use Rattle.trees.proofs.Rules.{listing_tree}
use Rattle.trees.proofs.Listings.{tree_listing}
use Rattle.listings.proofs.ListingRefusal.{Accepted, accepted_listing}
use Rattle.standard_listings.proofs.SubtreeRows.{standard_length}
use Rattle.splits.specs.Operations.{splits_answer}
use Rattle.splits.proofs.SplitsAnswer.{splits_end}
use Rattle.splits.proofs.splits.Goals.{After-standard_rows, In_ok-judge_for_splits}
use Rattle.splits.proofs.splits.Goals as goal

pub returns-in_err-judge_for_splits : goal.returns-in_err-judge_for_splits
unfolding splits_answer
returns-in_err-judge_for_splits c =
    let a = c.args in
    let made = split_bytes a.n (tree_of a.n a.listing.now) in
    let both =
    call_refused _ c.judge_for_splits.ensures made a.out.now c.in_err-judge_for_splits.was c.from_residual.ensures in
    record { answer = both.0; buffer = both.1 }

-- the listing is accepted
fine :
    (c : In_ok-judge_for_splits)
    → let a = c.args in
    Accepted a.n a.listing.now (set_bytes * (a.n - 3)) (length a.out.now)
fine c =
    accepted_listing _ _ _ _ (call_passed _ c.judge_for_splits.ensures c.in_ok-judge_for_splits.was)

pub standard_rows-requires : goal.standard_rows-requires
standard_rows-requires c =
    let a = fine (goal.at.standard_rows-requires c).In_ok-judge_for_splits in
    (a.count, a.keeps, omega (arith, a.count))

-- the standard listing stands at the front of the local rows
module _ (c : After-standard_rows) where
  kept :
      let a = c.args in
      Accepted a.n a.listing.now (set_bytes * (a.n - 3)) (length a.out.now)
  kept = accepted_listing _ _ _ _ (call_passed _ c.judge_for_splits.ensures c.in_ok-judge_for_splits.was)

  rows_are :
      let a = c.args in
      take (2 * (a.n - 2)) c.standard_rows.new.out ≡ standard a.n (tree_of a.n a.listing.now)
  rows_are =
      let n = c.args.n in
      ap (take (2 * (n - 2))) c.standard_rows.ensures ∙ take_at _ _ _ (standard_length _ _ kept.count kept.keeps)

  rows_long :
      let n = c.args.n in
      length (take (2 * (n - 2)) c.standard_rows.new.out) ≡ 2 * (n - 2)
  rows_long = ap length rows_are ∙ standard_length _ _ kept.count kept.keeps

pub overflow_sub-rows : goal.overflow_sub-rows
overflow_sub-rows c = omega (arith, (fine (goal.at.overflow_sub-rows c).In_ok-judge_for_splits).count)

pub overflow_mul-rows : goal.overflow_mul-rows
overflow_mul-rows c = omega (arith, (fine (goal.at.overflow_mul-rows c).In_ok-judge_for_splits).count)

pub slice_bounds-rows-end : goal.slice_bounds-rows-end
slice_bounds-rows-end c =
    let n = c.args.n in
    let long = rows_long (goal.at.slice_bounds-rows-end c).After-standard_rows in
    omega (arith, long, length-take (2 * (n - 2)) c.standard_rows.new.out)

pub slice_bounds-write_splits-end : goal.slice_bounds-write_splits-end
slice_bounds-write_splits-end c = sym (rows_long (goal.at.slice_bounds-write_splits-end c).After-standard_rows)

pub write_splits-requires : goal.write_splits-requires
write_splits-requires c =
    let a = fine (goal.at.write_splits-requires c).In_ok-judge_for_splits in
    let tree = listing_tree _ a.count _ a.keeps in
    let rows = rows_are (goal.at.write_splits-requires c).After-standard_rows in
    (a.count, rw rows (tree_listing _ a.count _ tree).0, a.room_enough)

pub returns : goal.returns
unfolding splits_answer
returns c =
    let both = call_done _ c.judge_for_splits.ensures _ c.args.out.now c.in_ok-judge_for_splits.was
    (c.write_splits.ensures ∙ rw (rows_are (goal.at.returns c).After-standard_rows) (splits_end _ _ _)) in
    record { answer = both.0; buffer = both.1 }
