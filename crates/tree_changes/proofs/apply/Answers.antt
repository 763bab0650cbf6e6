-- `tree_changes::apply` meets its contract: nothing is written before all is judged; then the listing, then the table
-- of the tree that it stands for.
use mathlib.Core.Path.{refl, sym, ◌∙◌}
use lib.ListN.{length}
use Rattle.refusals.proofs.Answers.{call_passed, refused_some}
use Rattle.trees.specs.Trees.{IsTree}
use Rattle.trees.specs.Listings.{tree_of}
use Rattle.trees.proofs.Rules.{listing_tree}
use Rattle.trees.proofs.FrontListings.{front_fits, front_keeps}
use Rattle.change_answers.specs.Operations.{count_after, changed, change_answer, change_record, change_table}
use Rattle.change_answers.proofs.Changes.{changed_tree}
use Rattle.change_answers.proofs.Accepted.{Accepted, accepted_change}
use Rattle.tree_changes.proofs.Results.{listing_put, table_put, both_refused, both_done}
use Rattle.tree_changes.proofs.apply.Goals.{In_ok-judge}
use Rattle.tree_changes.proofs.apply.Goals as goal

pub returns-in_err-judge : goal.returns-in_err-judge
unfolding change_answer change_record change_table
returns-in_err-judge c =
    let arises = refused_some _ _ (sym c.judge.ensures ∙ c.in_err-judge.was) in
    let both = both_refused _ _ _ _ _ _ arises c.from_residual.ensures in
    record { answer = both.0; listing = both.1.0; table = both.1.1 }

-- nothing is refused, so the changed tree is one
module _ (c : In_ok-judge) where
  right :
      let a = c.args in
      Accepted a.n a.listing.now a.table.now a.change (length a.out.now) (length a.cells.now)
  right = accepted_change _ _ _ _ _ _ (call_passed _ c.judge.ensures c.in_ok-judge.was)

  is_tree :
      let a = c.args in
      IsTree (count_after a.n a.change) (changed a.n (tree_of a.n a.listing.now) a.change)
  is_tree =
      let a = c.args in
      changed_tree a.n right.count (tree_of a.n a.listing.now)
      (listing_tree a.n right.count a.listing.now right.keeps) a.change right.there

pub write_rows-requires : goal.write_rows-requires
write_rows-requires c =
    let w = right (goal.at.write_rows-requires c).In_ok-judge in
    (w.count, w.new_count, w.keeps, w.there, w.enough)

pub write_table-requires : goal.write_table-requires
write_table-requires c =
    let here = (goal.at.write_table-requires c).In_ok-judge in
    let w = right here in
    let put = c.write_rows.ensures in
    let k = w.new_count in
    let tree = is_tree here in
    rw c.count_after.ensures (k, front_fits _ k _ tree _ _ put, front_keeps _ k _ tree _ _ put, w.enough_cells)

pub returns : goal.returns
unfolding change_answer change_record change_table
returns c =
    let here = (goal.at.returns c).In_ok-judge in
    let k = (right here).new_count in
    let tree = is_tree here in
    let put = c.write_rows.ensures in
    let table = rw c.count_after.ensures at c.write_table.ensures in
    let both =
    both_done _ _ _ _ c.args.out.now c.args.cells.now (call_passed _ c.judge.ensures c.in_ok-judge.was)
    (listing_put _ k _ tree _ _ put _ refl) (table_put _ k _ tree _ _ put _ _ table) in
    record { answer = both.0; listing = both.1.0; table = both.1.1 }

pub count_after-requires : goal.count_after-requires
count_after-requires c = (right (goal.at.count_after-requires c).In_ok-judge).count
