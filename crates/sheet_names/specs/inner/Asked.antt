-- What is judged of a name that is asked for. No public contract cites it.
use Rattle.std.specs.Prelude.{List, [], ◌∷◌, ℕ}
use Rattle.std.proofs.Math.Option.{Option}
use Rattle.refusals.specs.declared.Refusal.{Refusal}
use Rattle.refusals.specs.Refusals.{judged}
use Rattle.checks.specs.Questions.{question_refusal}
use Rattle.sheet_rules.specs.Operations.{kept_sheet_refusal}

-- the sheet with these figures, and then the leaf
abbrev pub asked_refusal : (S : List ℕ) (n o leaf : ℕ) → Option Refusal
asked_refusal S n o leaf = judged (kept_sheet_refusal S n o 0 0 ∷ question_refusal n (leaf ∷ []) ∷ [])
