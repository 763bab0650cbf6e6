-- `gaps::gap` meets its contract: nothing is written before the listing and the table are judged; then the gap
-- at each cell is written.
use mathlib.Core.Path.{◌∙◌}
use native.Mathlib.Omega.{arith}
use lib.ListN.{length}
use Rattle.base.proofs.Lists.{length_tab}
use Rattle.limits.specs.Limits.{scale_of}
use Rattle.trees.specs.Listings.{tree_of}
use Rattle.limits.proofs.TableKinds.{leaf_count_of}
use Rattle.refusals.proofs.Answers.{call_passed, call_refused, call_done}
use Rattle.gaps.specs.Operations.{gaps, gap_answer}
use Rattle.gaps.proofs.GapAnswers.{Accepted, accepted_both}
use Rattle.gaps.proofs.gap.Goals.{In_ok-judge_gap}
use Rattle.gaps.proofs.gap.Goals as goal

pub returns-in_err-judge_gap : goal.returns-in_err-judge_gap
unfolding gap_answer
returns-in_err-judge_gap c =
    let a = c.args in
    let g = gaps a.n (scale_of a.kind) a.cells.now (tree_of a.n a.listing.now) in
    let told = call_refused _ c.judge_gap.ensures g a.out.now c.in_err-judge_gap.was c.from_residual.ensures in
    record { answer = told.0; buffer = told.1 }

-- what is not refused
accepted : (c : In_ok-judge_gap) → (let a = c.args in Accepted a.kind a.n a.cells.now a.listing.now (length a.out.now))
accepted c = accepted_both _ _ _ _ _ (call_passed _ c.judge_gap.ensures c.in_ok-judge_gap.was)

pub fill_gap-requires : goal.fill_gap-requires
fill_gap-requires c =
    let a = accepted (goal.at.fill_gap-requires c).In_ok-judge_gap in
    (omega arith, leaf_count_of c.args.kind c.args.n a.count, a.is_table.cells, a.keeps, a.room_enough)

pub fill_gap-requires-in-Poll : goal.fill_gap-requires-in-Poll
fill_gap-requires-in-Poll c =
    let a = accepted (goal.at.fill_gap-requires-in-Poll c).In_ok-judge_gap in
    (omega arith, leaf_count_of c.args.kind c.args.n a.count, a.is_table.cells, a.keeps, a.room_enough)

-- the gaps at this kind's scale are written
pub returns-in-Counts : goal.returns-in-Counts
unfolding gap_answer gaps
returns-in-Counts c =
    let a = c.args in
    let g = gaps a.n (scale_of a.kind) a.cells.now (tree_of a.n a.listing.now) in
    let told =
    call_done _ c.judge_gap.ensures g a.out.now c.in_ok-judge_gap.was
    (rw c.in-Counts.is (c.fill_gap.ensures ∙ simp length_tab)) in
    record { answer = told.0; buffer = told.1 }

pub returns-in-Poll : goal.returns-in-Poll
unfolding gap_answer gaps
returns-in-Poll c =
    let a = c.args in
    let g = gaps a.n (scale_of a.kind) a.cells.now (tree_of a.n a.listing.now) in
    let told =
    call_done _ c.judge_gap.ensures g a.out.now c.in_ok-judge_gap.was
    (rw c.in-Poll.is (c.fill_gap-in-Poll.ensures ∙ simp length_tab)) in
    record { answer = told.0; buffer = told.1 }
