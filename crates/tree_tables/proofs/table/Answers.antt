-- `tree_tables::table` meets its contract: nothing is written before `judge` is done, and what it accepts keeps the
-- rules, so that the table of its tree is written.
use mathlib.Core.Path.{◌∙◌}
use Rattle.base.proofs.Lists.{length_tab}
use Rattle.refusals.proofs.Answers.{call_passed, call_refused, call_done}
use Rattle.trees.specs.Listings.{tree_of}
use Rattle.trees.specs.Tables.{table_of}
use Rattle.listings.proofs.ListingRefusal.{accepted_listing}
use Rattle.tree_tables.specs.Operations.{table_answer}
use Rattle.tree_tables.proofs.table.Goals as goal

pub returns-in_err-judge_for_cells : goal.returns-in_err-judge_for_cells
unfolding table_answer
returns-in_err-judge_for_cells c =
    let a = c.args in
    let made = table_of a.n (tree_of a.n a.listing.now) in
    let both =
    call_refused _ c.judge_for_cells.ensures made a.out.now c.in_err-judge_for_cells.was c.from_residual.ensures in
    record { answer = both.0; buffer = both.1 }

pub fill_table-requires : goal.fill_table-requires
fill_table-requires c =
    let a = accepted_listing _ _ _ _ (call_passed _ c.judge_for_cells.ensures c.in_ok-judge_for_cells.was) in
    (a.count, a.keeps, a.room_enough)

pub returns : goal.returns
unfolding table_answer table_of
returns c =
    let both = call_done _ c.judge_for_cells.ensures _ c.args.out.now c.in_ok-judge_for_cells.was
    (c.fill_table.ensures ∙ simp length_tab) in
    record { answer = both.0; buffer = both.1 }
