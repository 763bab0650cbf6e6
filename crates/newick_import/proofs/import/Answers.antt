-- `newick_import::import` meets its contract: the sheet is judged first, and one that passes leaves the index of its
-- names.
use mathlib.Core.Path.{◌≡◌, refl, ◌∙◌}
use Prim.Native.Nat.{◌-◌, ◌*◌}
use lib.ListN.{length}
use Rattle.refusals.specs.Refusals.{outcome, answered, returned}
use Rattle.refusals.proofs.Answers.{unless_some, unless_none, handed_on}
use Rattle.refusals.proofs.Meanings.{with_meaning}
use Rattle.sheet_rules.specs.Sheets.{leaves_of}
use Rattle.sheet_rules.specs.Operations.{sheet_refusal}
use Rattle.name_index.specs.inner.Indexes.{first_names}
use Rattle.name_checks.proofs.Tells.{tells_none, tells_this, tells_some}
use Rattle.newick_rules.specs.Operations.{import_answer}
use Rattle.newick_rules.specs.Meanings.{ImportMeans}
use Rattle.newick_rules.proofs.Sheets.{import_answer_says}
use Rattle.newick_import.proofs.Answers.{sheet_ready}
use Rattle.newick_import.proofs.import.Goals.{After-index}
use Rattle.newick_import.proofs.import.Goals as goal

-- the sheet is judged with room for a listing of as many leaves as it says
judged :
    (c : After-index)
    → (let S = c.args.sheet.now in
    c.index.result
    ≡ returned (answered (sheet_refusal S (2 * (leaves_of S - 2)) (length c.args.out.now))
    (first_names S (leaves_of S))))
judged c = rw (c.rows_of-due.ensures, c.figures.ensures.0, c.new-sheet.ensures) at c.index.ensures

pub returns-in_err-names : goal.returns-in_err-names
unfolding import_answer
returns-in_err-names c =
    let arises = tells_some _ _ (judged (goal.at.returns-in_err-names c).After-index) c.in_err-names.was in
    let stopped = unless_some _ _ c.args.out.now _ arises in
    let said =
    with_meaning outcome (ImportMeans _ _ _) (import_answer _ _ _) (import_answer_says _ _ _)
    (handed_on _ c.from_residual.ensures ∙ stopped.0, stopped.1) in
    record { answer = said.0; buffer = said.1.0; meaning = said.1.1 }

pub import_indexed-requires : goal.import_indexed-requires
import_indexed-requires c =
    let told = judged (goal.at.import_indexed-requires c).After-index in
    let ready = sheet_ready _ _ _ refl (tells_none _ _ told c.in_ok-names.was) in
    rw (tells_this _ _ told c.in_ok-names.was) (ready.0, refl, ready.1, ready.2)

pub returns : goal.returns
unfolding import_answer
returns c =
    let told = judged (goal.at.returns c).After-index in
    let made = rw (tells_this _ _ told c.in_ok-names.was) at c.import_indexed.ensures in
    let said =
    with_meaning outcome (ImportMeans _ _ _) (import_answer _ _ _) (import_answer_says _ _ _)
    (unless_none _ _ _ _ _ (tells_none _ _ told c.in_ok-names.was) (made.answer, made.buffer)) in
    record { answer = said.0; buffer = said.1.0; meaning = said.1.1 }
