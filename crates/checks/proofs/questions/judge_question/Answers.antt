-- `checks::questions::judge_question` meets its contract: before turn p none of the first p positions is bad.
use mathlib.Core.Path.{ap, sym, ◌∙◌}
use native.Mathlib.Omega.{arith}
use Rattle.refusals.specs.Refusals.{outcome_of}
use Rattle.checks.proofs.QuestionRefusal.{question_good, question_bad}
use Rattle.checks.proofs.questions.judge_question.Goals as goal

pub returns-then-bad_at : goal.returns-then-bad_at
unfolding outcome_of
returns-then-bad_at c =
    let bad = sym c.bad_at.ensures ∙ c.if-bad_at.true in
    ap outcome_of (sym (question_bad _ _ c.loop-p.p (omega arith) bad c.loop-p.invariant))

pub returns : goal.returns
unfolding outcome_of
returns c = ap outcome_of (sym (question_good _ _ (λ i h. c.loop-p.invariant i (omega arith))))
