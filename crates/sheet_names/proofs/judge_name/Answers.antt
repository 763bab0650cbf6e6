-- `sheet_names::judge_name` meets its contract: the sheet is judged with its figures, and then the leaf.
use mathlib.Core.Path.{◌≡◌}
use mathlib.Core.Option.{none}
use native.Mathlib.Omega.{arith}
use Rattle.refusals.specs.Refusals.{answered, returned}
use Rattle.refusals.proofs.Answers.{judged_stops}
use Rattle.sheet_rules.specs.Operations.{kept_sheet_refusal}
use Rattle.name_index.specs.inner.Indexes.{first_names}
use Rattle.name_checks.proofs.Tells.{told_hands, tells_none, tells_this, tells_some}
use Rattle.sheet_names.proofs.Asked.{leaf_refused, none_refused}
use Rattle.sheet_names.proofs.judge_name.Goals.{In_ok-names}
use Rattle.sheet_names.proofs.judge_name.Goals as goal

pub returns-in_err-names : goal.returns-in_err-names
returns-in_err-names c =
    told_hands _ (judged_stops _ (tells_some _ _ c.index_figures.ensures c.in_err-names.was)) c.from_residual.ensures

-- the sheet is accepted, and its names are in the index
passed :
    (c : In_ok-names)
    → (let f = c.args.figures in
    (kept_sheet_refusal c.args.sheet.now f.leaves f.offset 0 0 ≡ none)
    × (c.in_ok-names.names ≡ first_names c.args.sheet.now f.leaves))
passed c =
    let told = c.index_figures.ensures in
    (tells_none _ _ told c.in_ok-names.was, tells_this _ _ told c.in_ok-names.was)

pub returns-then-len-leaf : goal.returns-then-len-leaf
unfolding answered returned
returns-then-len-leaf c =
    let p = passed (goal.at.returns-then-len-leaf c).In_ok-names in
    let many = rw p.1 at c.len.ensures in
    rw (leaf_refused _ c.args.figures.leaves _ c.args.leaf p.0 (omega arith))

pub returns : goal.returns
unfolding answered returned
returns c =
    let p = passed (goal.at.returns c).In_ok-names in
    let many = rw p.1 at c.len.ensures in
    rw (none_refused _ c.args.figures.leaves _ c.args.leaf p.0 (omega arith), p.1)
