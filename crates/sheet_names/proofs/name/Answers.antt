-- `sheet_names::name` meets its contract: what `judge_name` accepts has a name.
use Rattle.refusals.proofs.Answers.{handed_on}
use Rattle.name_checks.proofs.Tells.{tells_none, tells_this, tells_some}
use Rattle.sheet_names.proofs.Asked.{name_refused, name_given, asked_leaf}
use Rattle.sheet_names.proofs.name.Goals as goal

pub returns-in_err-names : goal.returns-in_err-names
returns-in_err-names c =
    rw (handed_on _ c.from_residual.ensures)
    (name_refused _ _ _ _ (tells_some _ _ c.judge_name.ensures c.in_err-names.was))

pub name-requires : goal.name-requires
name-requires c =
    let told = c.judge_name.ensures in
    rw (tells_this _ _ told c.in_ok-names.was) (asked_leaf _ _ _ _ (tells_none _ _ told c.in_ok-names.was))

pub returns : goal.returns
returns c =
    let told = c.judge_name.ensures in
    let named = rw (tells_this _ _ told c.in_ok-names.was) at c.name.ensures in
    rw named (name_given _ _ _ _ (tells_none _ _ told c.in_ok-names.was))
