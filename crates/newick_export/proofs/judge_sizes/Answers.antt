-- `newick_export::judge_sizes` meets its contract: it tests in the order in which the refusals are judged.
use mathlib.Core.Path.{◌≡◌, ap, sym, ◌∙◌}
use mathlib.Core.Bool.{true}
use Prim.Native.Nat.{◌-◌, ◌*◌}
use Rattle.limits.specs.declared.Kind.TheVariants.{Counts}
use Rattle.refusals.specs.Refusals.{outcome_of}
use Rattle.refusals.proofs.Answers.{go_stops, call_passed}
use Rattle.checks.specs.Sizes.{input_refusal}
use Rattle.checks.proofs.Sizes.{input_due, input_right}
use Rattle.sheet_rules.specs.Operations.{right_ends}
use Rattle.newick_export.proofs.ExportRefusal.{ends_refused, ends_passed, sum_refused, sum_passed}
use Rattle.newick_export.proofs.judge_sizes.Goals.{After-judge_input}
use Rattle.newick_export.proofs.judge_sizes.Goals as goal

pub returns-then-not-right_ends : goal.returns-then-not-right_ends
unfolding outcome_of
returns-then-not-right_ends c =
    ap outcome_of (sym (ends_refused _ _ _ _ (sym c.right_ends.ensures ∙ c.if-not-right_ends.true)))

-- the ends are right, and what `judge_input` says
module _ (c : After-judge_input) where
  ends : right_ends c.args.sheet.now ≡ true
  ends = sym c.right_ends.ensures ∙ c.if-not-right_ends.false

  told :
      let a = c.args in
      c.judge_input.result ≡ outcome_of (input_refusal Counts a.figures.leaves (2 * (a.figures.leaves - 2)) a.lent)
  told = c.judge_input.ensures ∙ ap outcome_of (input_due Counts _ _ _ _ c.listing_numbers.ensures)

pub returns-in_err-judge_input : goal.returns-in_err-judge_input
returns-in_err-judge_input c =
    let input = (goal.at.returns-in_err-judge_input c).After-judge_input in
    go_stops _ (told input) _ c.in_err-judge_input.was c.from_residual.ensures
    ∙ ap outcome_of (sym (ends_passed _ _ _ _ (ends input)))

pub right_sum-requires : goal.right_sum-requires
right_sum-requires c =
    let input = (goal.at.right_sum-requires c).After-judge_input in
    (input_right Counts _ _ _ (call_passed _ (told input) c.in_ok-judge_input.was)).0

pub returns-then-not-right_sum : goal.returns-then-not-right_sum
unfolding outcome_of
returns-then-not-right_sum c =
    let input = (goal.at.returns-then-not-right_sum c).After-judge_input in
    let passed = call_passed _ (told input) c.in_ok-judge_input.was in
    let wrong = sym c.right_sum.ensures ∙ c.if-not-right_sum.true in
    ap outcome_of (sym (sum_refused _ _ _ _ (ends input) passed wrong))

pub returns : goal.returns
unfolding outcome_of
returns c =
    let input = (goal.at.returns c).After-judge_input in
    let passed = call_passed _ (told input) c.in_ok-judge_input.was in
    let right = sym c.right_sum.ensures ∙ c.if-not-right_sum.false in
    ap outcome_of (sym (sum_passed _ _ _ _ (ends input) passed right))
