-- `newick_export::export` meets its contract: what is given is judged first, then the names, and then the room by the
-- length of the text. Nothing is written before, and then the whole text is.
use mathlib.Core.Path.{◌≡◌, refl, sym, ◌∙◌}
use mathlib.Core.Option.{none}
use native.Mathlib.Omega.{arith}
use Rattle.refusals.proofs.Answers.{handed_on, judged_stops, refused_some, call_passed}
use Rattle.sheet_rules.specs.Sheets.{leaves_of, offset_of}
use Rattle.sheets.specs.inner.Figures.{FiguresOf}
use Rattle.newick_export.specs.inner.Judging.{given_refusal, export_refusal}
use Rattle.newick_export.proofs.ExportRefusal.{names_decide, names_within, given_judged, offset_within}
use Rattle.newick_export.proofs.ExportRefusal.{room_refused, room_enough}
use Rattle.newick_export.proofs.ExportAnswer.{export_refused, export_ready, export_done}
use Rattle.newick_export.proofs.export.Goals.{After-figures-figures, In_ok-judge_given, In_ok-take_names}
use Rattle.newick_export.proofs.export.Goals as goal

-- the figures are those that the trailer says
figures : (c : After-figures-figures) → FiguresOf c.args.sheet.now c.figures-figures.result
figures c = rw c.new.ensures at c.figures-figures.ensures

pub returns-in_err-judge_given : goal.returns-in_err-judge_given
unfolding export_refusal
returns-in_err-judge_given c =
    let f = figures (goal.at.returns-in_err-judge_given c).After-figures-figures in
    let arises = rw (f.0, f.1) at c.in_err-judge_given.ensures in
    let said = export_refused _ _ _ (judged_stops _ arises) (handed_on _ c.from_residual.ensures) in
    record { answer = said.0; buffer = said.1 }

pub new-names-requires : goal.new-names-requires
new-names-requires c = (names_within _ _ _ _ c.in_ok-judge_given.ensures).1

pub take_names-requires : goal.take_names-requires
take_names-requires c =
    let within = names_within _ _ _ _ c.in_ok-judge_given.ensures in (within.0, within.2, c.new-names.ensures)

pub returns-in_err-take_names : goal.returns-in_err-take_names
unfolding export_refusal
returns-in_err-take_names c =
    let f = figures (goal.at.returns-in_err-take_names c).After-figures-figures in
    let bad = refused_some _ _ (sym c.take_names.ensures.answer ∙ c.in_err-take_names.was) in
    let arises = rw (f.0, f.1) at (names_decide _ _ _ _ c.in_ok-judge_given.ensures ∙ bad) in
    let said = export_refused _ _ _ (judged_stops _ arises) (handed_on _ c.from_residual-in_err-take_names.ensures) in
    record { answer = said.0; buffer = said.1 }

-- what is given is not refused, nor are the names
passed :
    (c : In_ok-take_names) → FiguresOf c.args.sheet.now c.figures-figures.result
    → (let S = c.args.sheet.now in given_refusal S (leaves_of S) (offset_of S) c.args.listing.now ≡ none)
passed c f =
    let good = call_passed _ c.take_names.ensures.answer c.in_ok-take_names.was in
    rw (f.0, f.1) at (names_decide _ _ _ _ c.in_ok-judge_given.ensures ∙ good)

pub overflow_add-figures : goal.overflow_add-figures
overflow_add-figures c =
    let at = goal.at.overflow_add-figures c in
    let f = figures at.After-figures-figures in
    let fine = passed at.In_ok-take_names f in
    omega (arith, f.0, f.1, (given_judged _ _ fine).count, offset_within _ _ fine)

pub overflow_sub-figures : goal.overflow_sub-figures
overflow_sub-figures c =
    let at = goal.at.overflow_sub-figures c in
    let f = figures at.After-figures-figures in
    omega (arith, f.0, (given_judged _ _ (passed at.In_ok-take_names f)).count)

pub returns-then-text-figures : goal.returns-then-text-figures
returns-then-text-figures c =
    let at = goal.at.returns-then-text-figures c in
    let f = figures at.After-figures-figures in
    let short = rw (f.0, f.1) at c.if-text-figures.true in
    let said = export_refused _ _ _ (room_refused _ _ (passed at.In_ok-take_names f) _ short) refl in
    record { answer = said.0; buffer = said.1 }

pub write_text-requires : goal.write_text-requires
write_text-requires c =
    let at = goal.at.write_text-requires c in
    let f = figures at.After-figures-figures in
    let fine = passed at.In_ok-take_names f in
    let enough = room_enough _ _ fine _ (rw (f.0, f.1) at c.if-text-figures.false) in
    let good = call_passed _ c.take_names.ensures.answer c.in_ok-take_names.was in
    export_ready _ _ _ enough f.0 (c.take_names.ensures.index good) c.starts.ensures

pub returns : goal.returns
returns c =
    let at = goal.at.returns c in
    let f = figures at.After-figures-figures in
    let enough = room_enough _ _ (passed at.In_ok-take_names f) _ (rw (f.0, f.1) at c.if-text-figures.false) in
    let said = export_done _ _ _ enough f.0 c.write_text.ensures in
    record { answer = said.0; buffer = said.1 }
