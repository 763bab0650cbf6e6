-- A leaf's name that is asked for: the sheet is refused, the leaf is, or neither, and then the name is given, ends
-- within the sheet, and is as long as its length byte says.
use Rattle.std.specs.Prelude.{Ok, Err}
use mathlib.Core.Path.{◌≡◌, refl, sym, ◌∙◌}
use mathlib.Core.List.{List, [], ◌∷◌}
use mathlib.Core.Option.{none, some}
use Prim.Native.Nat.{ℕ, ◌+◌, ◌≤◌, ◌<◌}
use native.Mathlib.Omega.{arith}
use native.Mathlib.Decide.{dec_lt}
use borrow.Author.Tests.{le-leb, lt-leb}
use lib.ListN.{length}
use Rattle.base.specs.Lists.{tab, any_in, find}
use Rattle.base.proofs.Lists.{none_not_some}
use Rattle.refusals.specs.declared.Refusal.{Refusal}
use Rattle.refusals.specs.declared.Refusal.TheVariants.{Question}
use Rattle.refusals.specs.Refusals.{accepted, refused, answered}
use Rattle.refusals.proofs.Answers.{judged_passes, judged_alone, judged_none}
use Rattle.checks.specs.Questions.{question_refusal}
use Rattle.sheet_rules.specs.Sheets.{name_start, name, leaves_of, offset_of, longest_sheet}
use Rattle.sheet_rules.specs.Operations.{kept_sheet_refusal}
use Rattle.sheet_rules.proofs.Sizes.{ends_within}
use Rattle.sheet_rules.proofs.Names.{start_next, name_length}
use Rattle.sheet_rules.proofs.SheetRefusal.{Accepted, accepted_sheet}
use Rattle.sheet_rules.proofs.Accepted.{name_ends}
use Rattle.sheet_names.specs.Operations.{name_answer, placed, name_place_answer}
use Rattle.sheet_names.specs.inner.Asked.{asked_refusal}

-- 9 of a question of one leaf
leaf_high : (n leaf : ℕ) → n ≤ leaf → question_refusal n (leaf ∷ []) ≡ some (Question 0)
unfolding question_refusal tab find any_in
leaf_high n leaf h = rw (le-leb n leaf h, find, question_refusal)

leaf_fine : (n leaf : ℕ) → leaf < n → question_refusal n (leaf ∷ []) ≡ none
unfolding question_refusal tab find any_in
leaf_fine n leaf h = rw (lt-leb n leaf h, find, question_refusal)

leaf_below : (n leaf : ℕ) → question_refusal n (leaf ∷ []) ≡ none → leaf < n
leaf_below n leaf h = elim (dec_lt leaf n) [
  | yes l ↦ l
  | no g ↦ absurd (none_not_some _ (Question 0) (leaf_high n leaf (omega arith)) h)
]

module _ (S : List ℕ) (n o leaf : ℕ) where
  pub leaf_refused : kept_sheet_refusal S n o 0 0 ≡ none → n ≤ leaf → asked_refusal S n o leaf ≡ some (Question 0)
  leaf_refused h l = judged_passes _ h ∙ judged_alone _ ∙ leaf_high n leaf l

  pub none_refused : kept_sheet_refusal S n o 0 0 ≡ none → leaf < n → asked_refusal S n o leaf ≡ none
  none_refused h l = judged_passes _ h ∙ judged_alone _ ∙ leaf_fine n leaf l

  pub name_refused : {r : Refusal} → asked_refusal S n o leaf ≡ some r → name_answer S n o leaf ≡ refused r
  unfolding name_answer answered
  name_refused h = rw h

  module _ (h : asked_refusal S n o leaf ≡ none) where
    pub name_given : name_answer S n o leaf ≡ accepted (name S leaf)
    unfolding name_answer answered
    name_given = rw h

    -- neither is refused: the sheet is accepted, and the leaf is below n
    asked_sheet : Accepted S n o 0 0
    asked_sheet = accepted_sheet S n o 0 0 (judged_none (kept_sheet_refusal S n o 0 0) _ h).0

    pub asked_leaf : leaf < n
    asked_leaf =
        let question = question_refusal n (leaf ∷ []) in
        leaf_below n leaf
        (sym (judged_alone question) ∙ (judged_none (kept_sheet_refusal S n o 0 0) (question ∷ []) h).1)

    -- the name ends within the sheet, so that its place is low
    pub asked_few : name_start S leaf + 1 + length (name S leaf) ≤ longest_sheet
    unfolding name
    asked_few =
        let a = asked_sheet in
        let next = start_next S leaf refl in
        let ends : name_start S (leaf + 1) ≤ length S = omega (arith, name_ends S n o a.names leaf asked_leaf, a.sum) in
        omega (arith, name_length S (name_start S leaf) (omega (arith, ends, next)), next, ends, ends_within S a.ends)

-- where it stands, by the trailer's figures
module _ (S : List ℕ) (leaf : ℕ) where
  pub place_refused :
      {r : Refusal} → asked_refusal S (leaves_of S) (offset_of S) leaf ≡ some r → Err r ≡ name_place_answer S leaf
  unfolding name_place_answer placed
  place_refused h = rw (name_refused S (leaves_of S) (offset_of S) leaf h)

  pub place_found :
      asked_refusal S (leaves_of S) (offset_of S) leaf ≡ none
      → Ok (record { first = name_start S leaf + 1; many = length (name S leaf) }) ≡ name_place_answer S leaf
  unfolding name_place_answer placed
  place_found h = rw (name_given S (leaves_of S) (offset_of S) leaf h)
