-- `sheets::judge_sizes` meets its contract: it tests in the order in which the refusals are judged, and each test that
-- refuses is the one whose refusal stands first.
use mathlib.Core.Path.{◌≡◌, sym, ◌∙◌}
use mathlib.Core.Bool.{true, ◌&&◌}
use lib.Dec.{leb}
use Rattle.limits.specs.Limits.{most_leaves}
use Rattle.checks.proofs.Sizes.{is_leaf_count}
use Rattle.sheet_rules.specs.Operations.{right_ends, right_sum}
use Rattle.sheet_rules.proofs.SheetRefusal.{ends_refused, count_refused, sum_refused, room_refused}
use Rattle.sheets.proofs.judge_sizes.Goals.{Else-not-leaf_count, Else-not-right_ends, Else-not-right_sum}
use Rattle.sheets.proofs.judge_sizes.Goals as goal

-- the tests that were passed
ends : (c : Else-not-right_ends) → right_ends c.args.sheet.now ≡ true
ends c = sym c.right_ends.ensures ∙ c.if-not-right_ends.false

count :
    (c : Else-not-leaf_count)
    → (let n = c.args.figures.leaves in (leb 3 n && leb n most_leaves) ≡ true)
count c = sym c.leaf_count.ensures ∙ c.if-not-leaf_count.false

sum :
    (c : Else-not-right_sum)
    → (let a = c.args in
    right_sum a.sheet.now a.figures.leaves a.figures.offset ≡ true)
sum c = sym c.right_sum.ensures ∙ c.if-not-right_sum.false

pub returns-then-not-right_ends : goal.returns-then-not-right_ends
returns-then-not-right_ends c =
    ends_refused _ _ _ _ _ (sym c.right_ends.ensures ∙ c.if-not-right_ends.true)

pub returns-then-not-leaf_count : goal.returns-then-not-leaf_count
returns-then-not-leaf_count c =
    let off = sym c.leaf_count.ensures ∙ c.if-not-leaf_count.true in
    count_refused _ _ _ _ _ (ends (goal.at.returns-then-not-leaf_count c).Else-not-right_ends) off

pub right_sum-requires : goal.right_sum-requires
right_sum-requires c = is_leaf_count _ (count c)

pub returns-then-not-right_sum : goal.returns-then-not-right_sum
returns-then-not-right_sum c =
    let wrong = sym c.right_sum.ensures ∙ c.if-not-right_sum.true in
    let here = goal.at.returns-then-not-right_sum c in
    sum_refused _ _ _ _ _ (ends here.Else-not-right_ends) (count here.Else-not-leaf_count) wrong

pub returns-then-room-due : goal.returns-then-room-due
returns-then-room-due c =
    let here = goal.at.returns-then-room-due c in
    room_refused _ _ _ _ _ (ends here.Else-not-right_ends) (count here.Else-not-leaf_count)
    (sum here.Else-not-right_sum) c.if-room-due.true

pub returns : goal.returns
returns c =
    let here = goal.at.returns c in
    record {
      ends = ends here.Else-not-right_ends;
      count = count here.Else-not-leaf_count;
      sum = sum here.Else-not-right_sum;
      enough = c.if-room-due.false;
    }
