-- Where a tree is told, the answer is accepted; of a sheet, the leaf count is right then.
use mathlib.Core.Path.{◌≡◌, refl}
use Rattle.std.specs.Prelude.{Ok}
use mathlib.Core.List.{List}
use Prim.Native.Nat.{ℕ}
use native.Mathlib.Omega.{arith}
use Rattle.limits.specs.Limits.{IsLeafCount}
use Rattle.refusals.specs.Refusals.{Answer, accepted, refused}
use Rattle.merging.specs.Guesses.{Reply}
use Rattle.sheet_rules.specs.Sheets.{leaves_of}
use Rattle.guess_answers.specs.Operations.{sheet_guess_answer}
use Rattle.guess_answers.proofs.Promises.{sheet_guess_is_reply}
use Rattle.guesses.specs.declared.Found.{Found}
use Rattle.guesses.specs.Outcomes.{guess_outcome}

told_accepted :
    (a : Answer Reply) {f : Found} → guess_outcome a ≡ Ok f → (R : Reply) × (a ≡ accepted R)
unfolding guess_outcome
told_accepted (accepted R) e = (R, refl)
told_accepted (refused x) e = absurd (let z : ◌≡◌ {A = ℕ} 0 1 = cc in omega arith)

pub told_count :
    (S : List ℕ) (room : ℕ) {f : Found} → guess_outcome (sheet_guess_answer S room) ≡ Ok f
    → IsLeafCount (leaves_of S)
told_count S room e =
    let a = told_accepted (sheet_guess_answer S room) e in
    (sheet_guess_is_reply S room a.0 a.1).count
