-- A question of four that is not refused has four different leaves.
use mathlib.Core.Path.{◌≡◌, sym}
use mathlib.Core.Logic.{◌≢◌}
use mathlib.Core.Bool.{false}
use mathlib.Core.List.{List}
use mathlib.Core.Option.{none}
use Prim.Native.Nat.{ℕ, ◌<◌}
use native.Mathlib.Omega.{arith}
use borrow.Author.Tests.{leb-false, eq-eqb}
use lib.Dec.{leb, eqb}
use lib.ListN.{length, get_or, take}
use Rattle.base.specs.Lists.{any_in}
use Rattle.base.proofs.Bools.{never, or_neither}
use Rattle.base.proofs.Searches.{any_before}
use Rattle.checks.specs.Questions.{question_refusal}
use Rattle.checks.proofs.QuestionRefusal.{position_good}
use Rattle.trees.specs.Quartets.{Four}

-- the leaves of a question are four different ones
abbrev pub FourAsked : ℕ → List ℕ → Type 0
FourAsked n q = Four n (get_or q 0 0) (get_or q 1 0) (get_or q 2 0) (get_or q 3 0)

module _ (n : ℕ) (q : List ℕ) where
  question_good :
      question_refusal n q ≡ none → (p : ℕ) → p < length q
      → (leb n (get_or q p 0) ≡ false) × (any_in (eqb (get_or q p 0)) (take p q) ≡ false)
  question_good h p l =
      or_neither (leb n (get_or q p 0)) (any_in (eqb (get_or q p 0)) (take p q)) (position_good n q h p l)

  pub question_below : question_refusal n q ≡ none → (p : ℕ) → p < length q → get_or q p 0 < n
  question_below h p l = leb-false _ _ (question_good h p l).0

  pub question_four : length q ≡ 4 → question_refusal n q ≡ none → FourAsked n q
  question_four e h = record {
    leaf_a = below 0 (omega arith);
    leaf_b = below 1 (omega arith);
    leaf_c = below 2 (omega arith);
    leaf_d = below 3 (omega arith);
    ab = differ 0 1 (omega arith) (omega arith);
    ac = differ 0 2 (omega arith) (omega arith);
    ad = differ 0 3 (omega arith) (omega arith);
    bc = differ 1 2 (omega arith) (omega arith);
    bd = differ 1 3 (omega arith) (omega arith);
    cd = differ 2 3 (omega arith) (omega arith);
  }
    where
      below : (p : ℕ) → p < length q → get_or q p 0 < n
      below = question_below h

      differ : (i p : ℕ) → i < p → p < length q → get_or q i 0 ≢ get_or q p 0
      differ i p li lp e =
          never (any_before (eqb (get_or q p 0)) 0 q p i (omega arith) li
          (eq-eqb (get_or q p 0) (get_or q i 0) (sym e)))
          (question_good h p lp).1
