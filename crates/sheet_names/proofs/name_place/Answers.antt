-- `sheet_names::name_place` meets its contract: what `judge_name` accepts has a name, and it has its place.
use mathlib.Core.Path.{◌≡◌, ◌∙◌}
use native.Mathlib.Omega.{arith}
use Rattle.refusals.specs.Refusals.{answered, returned}
use Rattle.sheet_rules.specs.Sheets.{leaves_of, offset_of}
use Rattle.name_index.specs.inner.Indexes.{first_names}
use Rattle.name_checks.proofs.Tells.{tells_none, tells_this, tells_some}
use Rattle.sheet_names.specs.inner.Asked.{asked_refusal}
use Rattle.sheet_names.proofs.Asked.{asked_leaf, asked_few, place_refused, place_found}
use Rattle.sheet_names.proofs.name_place.Goals.{After-judge_name}
use Rattle.sheet_names.proofs.name_place.Goals as goal

-- what `judge_name` says, of the figures that the trailer says
says :
    (c : After-judge_name)
    → (let S = c.args.sheet.now in
    c.judge_name.result
    ≡ returned (answered (asked_refusal S (leaves_of S) (offset_of S) c.args.leaf) (first_names S (leaves_of S))))
says c =
    let figures = rw c.new.ensures at c.figures-figures.ensures in
    rw (figures.0, figures.1) at c.judge_name.ensures

pub returns-in-Err : goal.returns-in-Err
returns-in-Err c = place_refused _ _ (tells_some _ _ (says (goal.at.returns-in-Err c).After-judge_name) c.in-Err.is)

pub start-requires : goal.start-requires
start-requires c =
    let told = says (goal.at.start-requires c).After-judge_name in
    rw (tells_this _ _ told c.in-Ok.is) (asked_leaf _ _ _ _ (tells_none _ _ told c.in-Ok.is))

pub overflow_add-result : goal.overflow_add-result
overflow_add-result c =
    let told = says (goal.at.overflow_add-result c).After-judge_name in
    let start = rw (tells_this _ _ told c.in-Ok.is) at c.start.ensures in
    omega (arith, asked_few _ _ _ _ (tells_none _ _ told c.in-Ok.is), start)

pub name-requires : goal.name-requires
name-requires c =
    let told = says (goal.at.name-requires c).After-judge_name in
    rw (tells_this _ _ told c.in-Ok.is) (asked_leaf _ _ _ _ (tells_none _ _ told c.in-Ok.is))

pub returns-in-Ok : goal.returns-in-Ok
returns-in-Ok c =
    let told = says (goal.at.returns-in-Ok c).After-judge_name in
    let this = tells_this _ _ told c.in-Ok.is in
    let start = rw this at c.start.ensures in
    let named = rw this at c.name.ensures in
    rw (start, named) (place_found _ _ (tells_none _ _ told c.in-Ok.is))
