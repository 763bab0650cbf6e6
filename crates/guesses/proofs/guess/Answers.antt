-- `guesses::guess` meets its contract: what is refused is told, and else `guess_checked` decides.
use mathlib.Core.Path.{◌≡◌}
use mathlib.Core.Option.{none}
use Prim.Native.Nat.{◌-◌, ◌*◌}
use lib.ListN.{length}
use Rattle.limits.specs.Limits.{scale_of}
use Rattle.refusals.proofs.Answers.{call_passed}
use Rattle.merging.specs.Guesses.{replied}
use Rattle.table_checks.specs.Operations.{table_refusal}
use Rattle.table_checks.proofs.TableRefusal.{accepted_table}
use Rattle.guess_answers.specs.Operations.{guess_answer, guess_listing}
use Rattle.guess_answers.proofs.Promises.{reply_gives, guess_meaning}
use Rattle.guesses.specs.Outcomes.{guess_outcome}
use Rattle.guesses.proofs.Told.{tells_on, tells_stop}
use Rattle.guesses.proofs.Judged.{count_of_kind}
use Rattle.guesses.proofs.guess.Goals.{In_ok-judge_for_rows}
use Rattle.guesses.proofs.guess.Goals as goal

-- nothing was refused
passed :
    (c : In_ok-judge_for_rows)
    → let a = c.args in
    table_refusal a.kind a.n a.table.now (2 * (a.n - 2)) (length a.out.now) ≡ none
passed c = call_passed _ c.judge_for_rows.ensures c.in_ok-judge_for_rows.was

pub guess_checked-requires : goal.guess_checked-requires
guess_checked-requires c =
    let none = passed (goal.at.guess_checked-requires c).In_ok-judge_for_rows in
    let a = accepted_table _ _ _ _ _ none in
    (count_of_kind _ _ _ _ _ none, a.is_table, a.room_enough)

pub returns : goal.returns
unfolding guess_answer guess_listing
returns c =
    let told = c.guess_checked.ensures in
    let none = passed (goal.at.returns c).In_ok-judge_for_rows in
    let both = tells_on _ _ _ none (told.found, told.buffer) in
    let all = reply_gives guess_outcome _ _ (guess_meaning _ _ _ _) both in
    record { answer = all.0; buffer = all.1.0; meaning = all.1.1 }

pub returns-in_err-judge_for_rows : goal.returns-in_err-judge_for_rows
unfolding guess_answer guess_listing
returns-in_err-judge_for_rows c =
    let a = c.args in
    let judged = c.judge_for_rows.ensures in
    let told =
    tells_stop _ (replied a.n (scale_of a.kind) a.table.now) a.out.now judged c.in_err-judge_for_rows.was
    c.from_residual.ensures in
    let all = reply_gives guess_outcome _ _ (guess_meaning _ _ _ _) told in
    record { answer = all.0; buffer = all.1.0; meaning = all.1.1 }
