-- `guesses::guess_sheet` meets its contract: what is refused is told, and else `guess_checked_sheet` decides.
use Rattle.name_checks.proofs.Tells.{tells_none, tells_this, tells_some}
use Rattle.sheets.proofs.Judged.{accepted_here}
use Rattle.guess_answers.specs.Operations.{sheet_reply, sheet_guess_answer, sheet_guess_listing}
use Rattle.guess_answers.proofs.Promises.{reply_gives, sheet_guess_meaning}
use Rattle.guesses.specs.Outcomes.{guess_outcome}
use Rattle.guesses.proofs.Told.{tells_on, tells_hands}
use Rattle.guesses.proofs.guess_sheet.Goals as goal

pub guess_checked_sheet-requires : goal.guess_checked_sheet-requires
guess_checked_sheet-requires c =
    let told = c.judge_rows.ensures in
    rw (tells_this _ _ told c.in_ok-judged.was)
    (accepted_here _ _ _ (tells_none _ _ told c.in_ok-judged.was)).room_enough

pub returns-in_err-judged : goal.returns-in_err-judged
unfolding sheet_guess_answer sheet_guess_listing
returns-in_err-judged c =
    let a = c.args in
    let arises = tells_some _ _ c.judge_rows.ensures c.in_err-judged.was in
    let told = tells_hands _ (sheet_reply a.sheet.now) a.out.now arises c.from_residual.ensures in
    let all = reply_gives guess_outcome _ _ (sheet_guess_meaning _ _) told in
    record { answer = all.0; buffer = all.1.0; meaning = all.1.1 }

pub returns : goal.returns
unfolding sheet_guess_answer sheet_guess_listing
returns c =
    let told = c.judge_rows.ensures in
    let made = rw (tells_this _ _ told c.in_ok-judged.was) at c.guess_checked_sheet.ensures in
    let both = tells_on _ _ _ (tells_none _ _ told c.in_ok-judged.was) (made.found, made.buffer) in
    let all = reply_gives guess_outcome _ _ (sheet_guess_meaning _ _) both in
    record { answer = all.0; buffer = all.1.0; meaning = all.1.1 }
