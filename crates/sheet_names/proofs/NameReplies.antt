-- The reply to a question for a name: it is made of the place that is found; and the figure of a name that is found is
-- taken apart again, the place of its first byte in the sheet, and its length.
use Rattle.std.specs.Prelude.{Result}
use mathlib.Core.Path.{◌≡◌, refl, ap, ◌∙◌}
use mathlib.Core.Bool.{true, ◌&&◌}
use mathlib.Core.List.{List, [], ◌∷◌}
use mathlib.Core.Option.{Option, none, some}
use Prim.Native.Nat.{ℕ, ◌+◌, ◌*◌, ◌/◌, ◌%◌, ◌<◌}
use native.Mathlib.Omega.{arith}
use borrow.Author.Tests.{leb-true}
use lib.Dec.{leb}
use lib.ListN.{length}
use Rattle.base.specs.Lists.{all_in}
use Rattle.base.proofs.Bools.{and_both}
use Rattle.refusals.specs.declared.Refusal.{Refusal}
use Rattle.refusals.specs.Refusals.{accepted, answered}
use Rattle.refusals.proofs.Answers.{judged_none, answered_accepted}
use Rattle.checks.specs.Questions.{question_refusal}
use Rattle.sheet_rules.specs.Sheets.{leaves_of, offset_of, name_start, name, longest_name, name_byte, is_name}
use Rattle.sheet_rules.specs.Operations.{kept_sheet_refusal, sheet_refusal}
use Rattle.sheet_rules.proofs.Accepted.{names_good}
use Rattle.replies.specs.Replies.{eight_bits, figure_limit, reply_with}
use Rattle.replies.specs.inner.Told.{told_reply}
use Rattle.replies.proofs.Replies.{reply_with_figure, two_in_one}
use Rattle.sheet_names.specs.declared.NamePlace.{NamePlace}
use Rattle.sheet_names.specs.Operations.{name_answer, placed, name_place_answer}
use Rattle.sheet_names.specs.inner.Asked.{asked_refusal}
use Rattle.sheet_names.specs.inner.Figures.{place_figure}
use Rattle.sheet_names.proofs.Asked.{asked_leaf, asked_few}

-- the reply that is made of a place is that of the answer at this place
placed_replied :
    (p : ℕ) (o : Option Refusal) (x : List ℕ)
    → told_reply place_figure (placed p (answered o x)) ≡ reply_with (eight_bits * p + length x) (answered o x)
unfolding placed answered reply_with
placed_replied p none x = refl
placed_replied p (some r) x = refl

pub place_replied :
    (S : List ℕ) (leaf : ℕ) {r : ℕ} {q : Result NamePlace Refusal} → r ≡ told_reply place_figure q
    → q ≡ name_place_answer S leaf
    → r
    ≡ reply_with (eight_bits * (name_start S leaf + 1) + length (name S leaf))
    (name_answer S (leaves_of S) (offset_of S) leaf)
unfolding name_place_answer name_answer
place_replied S leaf h e = h ∙ ap (told_reply place_figure) e ∙ placed_replied (name_start S leaf + 1) _ (name S leaf)

-- a name is short
name_short : (x : List ℕ) → is_name x ≡ true → length x < eight_bits
unfolding is_name
name_short x h =
    let sized = and_both (leb 1 (length x) && leb (length x) longest_name) (all_in name_byte x) h in
    let both = and_both (leb 1 (length x)) (leb (length x) longest_name) sized.0 in
    omega (arith, leb-true (length x) longest_name both.1)

-- Leaf `leaf` of the sheet S, which has the name x.
module _ (S : List ℕ) (leaf : ℕ) (x : List ℕ) (e : name_answer S (leaves_of S) (offset_of S) leaf ≡ accepted x) where
  -- nothing was refused
  passed : asked_refusal S (leaves_of S) (offset_of S) leaf ≡ none
  unfolding name_answer
  passed = (answered_accepted _ (name S leaf) x e).0

  short : length (name S leaf) < eight_bits
  unfolding sheet_refusal
  short =
      let n = leaves_of S in
      let both = judged_none (kept_sheet_refusal S n (offset_of S) 0 0) (question_refusal n (leaf ∷ []) ∷ []) passed in
      name_short (name S leaf) (names_good S 0 0 both.0 leaf (asked_leaf S n (offset_of S) leaf passed))

  -- what the call replies
  abbrev place_and_length : ℕ
  place_and_length = eight_bits * (name_start S leaf + 1) + length (name S leaf)

  abbrev replied : ℕ
  replied = reply_with place_and_length (name_answer S (leaves_of S) (offset_of S) leaf)

  pub name_apart :
      (replied / eight_bits / eight_bits ≡ name_start S leaf + 1)
      × (replied / eight_bits % eight_bits ≡ length (name S leaf))
  name_apart =
      let low = asked_few S (leaves_of S) (offset_of S) leaf passed in
      let both = two_in_one (name_start S leaf + 1) (length (name S leaf)) (omega (arith, low)) short in
      let figured : replied / eight_bits ≡ place_and_length % figure_limit =
      reply_with_figure place_and_length (name_answer S (leaves_of S) (offset_of S) leaf) ∙ rw e in
      (ap (λ k. k / eight_bits) figured ∙ both.0, ap (λ k. k % eight_bits) figured ∙ both.1)
