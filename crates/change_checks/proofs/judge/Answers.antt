-- `change_checks::judge` meets its contract: the first leaf count stops it, or the sizes do, or the rules, or the cells
-- decide and what is named.
use mathlib.Core.Path.{◌≡◌, ap, sym, ◌∙◌}
use mathlib.Core.Option.{none}
use borrow.Author.Rules.{rules}
use lib.ListN.{length}
use Rattle.limits.specs.Limits.{IsLeafCount}
use Rattle.refusals.specs.Refusals.{outcome_of}
use Rattle.refusals.proofs.Answers.{call_passed}
use Rattle.checks.proofs.Sizes.{is_leaf_count}
use Rattle.trees.specs.Listings.{tree_of}
use Rattle.listings.specs.Operations.{listing_refusal}
use Rattle.change_answers.specs.Operations.{count_after}
use Rattle.change_checks.specs.inner.Refusals.{change_sizes_refusal, cells_or_own_refusal}
use Rattle.change_checks.proofs.Refusals.{first_count_told, sizes_right, sizes_stop, rules_stop, keeps}
use Rattle.change_checks.proofs.Refusals.{cells_decide}
use Rattle.change_checks.proofs.judge.Goals.{After-judge_sizes, Else-not-leaf_count, In_ok-judge_sizes, In_ok-judge}
use Rattle.change_checks.proofs.judge.Goals as goal

pub returns-then-not-leaf_count : goal.returns-then-not-leaf_count
returns-then-not-leaf_count c = first_count_told _ _ _ _ _ _ (sym c.leaf_count.ensures ∙ c.if-not-leaf_count.true)

-- the leaf count passed its test
count : (c : Else-not-leaf_count) → IsLeafCount c.args.n
count c = is_leaf_count _ (sym c.leaf_count.ensures ∙ c.if-not-leaf_count.false)

-- what was judged of the sizes
sizes :
    (c : After-judge_sizes)
    → let a = c.args in
    c.judge_sizes.result
    ≡ outcome_of
    (change_sizes_refusal a.n (count_after a.n a.change) (length a.listing.now) (length a.table.now)
    a.room a.space)
sizes c =
    let a = c.args in
    c.judge_sizes.ensures
    ∙ ap (λ m. outcome_of
    (change_sizes_refusal a.n m (length a.listing.now) (length a.table.now) a.room a.space))
    c.count_after-m.ensures

pub returns-in_err-judge_sizes : goal.returns-in_err-judge_sizes
returns-in_err-judge_sizes c =
    sizes_stop _ _ _ _ _ _ (count (goal.at.returns-in_err-judge_sizes c).Else-not-leaf_count)
    (sizes (goal.at.returns-in_err-judge_sizes c).After-judge_sizes) c.in_err-judge_sizes.was c.from_residual.ensures

-- nothing of them is refused
fine :
    (c : In_ok-judge_sizes)
    → let a = c.args in
    change_sizes_refusal a.n (count_after a.n a.change) (length a.listing.now) (length a.table.now)
    a.room a.space
    ≡ none
fine c = call_passed _ (sizes (goal.at.judge-requires c).After-judge_sizes) c.in_ok-judge_sizes.was

first :
    (c : In_ok-judge_sizes)
    → IsLeafCount c.args.n
first c = count (goal.at.judge-requires c).Else-not-leaf_count

pub returns-in_err-judge : goal.returns-in_err-judge
returns-in_err-judge c =
    rules_stop _ _ _ _ _ _ (first (goal.at.returns-in_err-judge c).In_ok-judge_sizes)
    (fine (goal.at.returns-in_err-judge c).In_ok-judge_sizes) c.judge.ensures c.in_err-judge.was
    c.from_residual-in_err-judge.ensures

-- nor of the rules
ruled :
    (c : In_ok-judge)
    → let a = c.args in
    listing_refusal a.n a.listing.now 0 0 ≡ none
ruled c = call_passed _ c.judge.ensures c.in_ok-judge.was

pub judge_cells-requires : goal.judge_cells-requires
judge_cells-requires c =
    let a = c.args in
    let at = goal.at.judge_cells-requires c in
    let count = first at.In_ok-judge_sizes in
    let s = fine at.In_ok-judge_sizes in
    let kept = keeps a.n a.listing.now a.table.now a.change a.room a.space count s (ruled at.In_ok-judge) in
    (count, kept, (sizes_right _ _ _ _ _ _ s).square)

pub returns : goal.returns
returns c =
    let a = c.args in
    cells_decide a.n a.listing.now a.table.now a.change a.room a.space (first (goal.at.returns c).In_ok-judge_sizes)
    (fine (goal.at.returns c).In_ok-judge_sizes)
    (ruled (goal.at.returns c).In_ok-judge)
    (c.judge_cells.ensures
    ∙ ap (λ b. outcome_of (cells_or_own_refusal b a.n a.table.now (tree_of a.n a.listing.now)))
    c.is_there.ensures)

pub count_after-m-requires : goal.count_after-m-requires
count_after-m-requires c = count c

pub judge_sizes-requires : goal.judge_sizes-requires
judge_sizes-requires c = count (goal.at.judge_sizes-requires c).Else-not-leaf_count

pub judge-requires : goal.judge-requires
judge-requires c = search rules

pub is_there-requires : goal.is_there-requires
is_there-requires c = first (goal.at.is_there-requires c).In_ok-judge_sizes
