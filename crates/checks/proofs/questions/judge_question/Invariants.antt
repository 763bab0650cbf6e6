-- `checks::questions::judge_question` meets its contract: before turn p none of the first p positions is bad.
use mathlib.Core.Path.{◌≡◌}
use mathlib.Core.Bool.{false}
use Prim.Native.Nat.{ℕ, ◌<◌}
use Rattle.checks.specs.Questions.{wrong_at}
use Rattle.checks.proofs.questions.judge_question.Given as goal

abbrev pub invariant-loop-p : goal.invariant-loop-p
invariant-loop-p l = (i : ℕ) → i < l.p → wrong_at l.n l.question i ≡ false
