-- `checks::judge_sizes` meets its contract: the input is judged first, then the room.
use mathlib.Core.Path.{ap, sym}
use Rattle.refusals.specs.Refusals.{outcome_of}
use Rattle.refusals.proofs.Answers.{go_stops, go_passes}
use Rattle.checks.specs.Sizes.{sizes_refusal}
use Rattle.checks.proofs.Sizes.{room_stops, room_passes}
use Rattle.checks.proofs.judge_sizes.Goals as goal

pub returns-in_err-judge_input : goal.returns-in_err-judge_input
unfolding sizes_refusal
returns-in_err-judge_input c =
    go_stops _ c.judge_input.ensures _ c.in_err-judge_input.was c.from_residual.ensures

pub returns-then-room-res : goal.returns-then-room-res
unfolding sizes_refusal outcome_of
returns-then-room-res c =
    go_passes _ c.judge_input.ensures _ c.in_ok-judge_input.was
    (ap outcome_of (sym (room_stops _ _ c.if-room-res.true)))

pub returns : goal.returns
unfolding sizes_refusal outcome_of
returns c =
    go_passes _ c.judge_input.ensures _ c.in_ok-judge_input.was
    (ap outcome_of (sym (room_passes _ _ c.if-room-res.false)))
