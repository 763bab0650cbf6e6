-- Refusals judged one after the other, as a loop over leaves judges them: none so far, the first, none at all. And so
-- the refusals of names.
use mathlib.Core.Path.{◌≡◌, refl, sym, ◌∙◌}
use mathlib.Core.Bool.{Bool, true, false, cond}
use mathlib.Core.List.{List, [], ◌∷◌, ◌++◌}
use mathlib.Core.Option.{Option, none, some}
use Prim.Native.Nat.{ℕ, zero, suc, ◌+◌, ◌≤◌, ◌<◌}
use native.Mathlib.Numerals.{add-one}
use native.Mathlib.Omega.{arith}
use native.Mathlib.Decide.{dec_lt}
use borrow.Author.Tests.{ltb-false, le-ltb, lt-ltb}
use lib.Dec.{ltb}
use Rattle.base.specs.Lists.{tab}
use Rattle.base.proofs.Lists.{none_not_some}
use Rattle.refusals.specs.declared.Refusal.{Refusal}
use Rattle.refusals.specs.declared.Refusal.TheVariants.{Name, SameName}
use Rattle.refusals.specs.Refusals.{judged}
use Rattle.refusals.proofs.Answers.{judged_alone, judged_here}
use Rattle.sheet_rules.specs.Sheets.{next_name, name_start}
use Rattle.sheet_rules.specs.Operations.{good_at, repeated, name_refusal, names_end_refusal, names_refusal}
use Rattle.sheet_rules.proofs.Names.{start_next}

-- where none of these arises, those after them are judged; where one does, it is the answer
judged_after : (l m : List (Option Refusal)) → judged l ≡ none → judged (l ++ m) ≡ judged m
unfolding judged
judged_after [] m h = refl
judged_after (none ∷ l) m h = judged_after l m h
judged_after (some r ∷ l) m h = absurd (none_not_some (some r) r refl h)

judged_before : (l m : List (Option Refusal)) (r : Refusal) → judged l ≡ some r → judged (l ++ m) ≡ some r
unfolding judged
judged_before [] m r h = absurd (none_not_some none r h refl)
judged_before (none ∷ l) m r h = judged_before l m r h
judged_before (some x ∷ l) m r h = h

judged_both :
    (l m : List (Option Refusal)) → judged (l ++ m) ≡ none → (judged l ≡ none) × (judged m ≡ none)
unfolding judged
judged_both [] m h = (refl, h)
judged_both (none ∷ l) m h = judged_both l m h
judged_both (some r ∷ l) m h = absurd (none_not_some (some r) r refl h)

-- One refusal a leaf, from leaf 0 on.
module _ (f : ℕ → Option Refusal) where
  none_yet : (k : ℕ) → judged (tab k f) ≡ none → f k ≡ none → judged (tab (k + 1) f) ≡ none
  unfolding tab judged
  none_yet k h e = rw (add-one k, judged_after (tab k f) (f k ∷ []) h, e)

  first_found :
      (n k : ℕ) (r : Refusal) → judged (tab k f) ≡ none → k < n → f k ≡ some r → judged (tab n f) ≡ some r
  unfolding tab
  first_found zero k r h l e = absurd (omega arith)
  first_found (suc n) k r h l e = elim (dec_lt k n) [
    | yes l' ↦ judged_before (tab n f) (f n ∷ []) r (first_found n k r h l' e)
    | no g ↦ (let q : n ≡ k = omega arith in rw (q, judged_after (tab k f) (f k ∷ []) h, e) (judged_here r []))
  ]

  none_of : (n : ℕ) → judged (tab n f) ≡ none → (k : ℕ) → k < n → f k ≡ none
  unfolding tab
  none_of zero h k l = absurd (omega arith)
  none_of (suc n) h k l =
      let r = judged_both (tab n f) (f n ∷ []) h in
      elim (dec_lt k n) [
        | yes l' ↦ none_of n r.0 k l'
        | no g ↦ (let q : k ≡ n = omega arith in rw q (sym (judged_alone (f n)) ∙ r.1))
      ]

tests_pass :
    (g r : Bool) (a b : Refusal) → cond g (cond r (some a) none) (some b) ≡ none → (g ≡ true) × (r ≡ false)
tests_pass true true a b h = absurd (none_not_some (some a) a refl h)
tests_pass true false a b h = (refl, refl)
tests_pass false r a b h = absurd (none_not_some (some b) b refl h)

test_passes : (b : Bool) (r : Refusal) → cond b (some r) none ≡ none → b ≡ false
test_passes true r h = absurd (none_not_some (some r) r refl h)
test_passes false r h = refl

-- The names of a sheet S of n leaves, whose first cell is at o.
module _ (S : List ℕ) (n o : ℕ) where
  names_found :
      (i : ℕ) (r : Refusal) → judged (tab i (name_refusal S o)) ≡ none → i < n → name_refusal S o i ≡ some r
      → names_refusal S n o ≡ some r
  unfolding names_refusal
  names_found i r h l e = judged_before (tab n (name_refusal S o)) _ r (first_found (name_refusal S o) n i r h l e)

  names_over : judged (tab n (name_refusal S o)) ≡ none → names_refusal S n o ≡ names_end_refusal S n o
  unfolding names_refusal
  names_over h = judged_after (tab n (name_refusal S o)) _ h ∙ judged_alone (names_end_refusal S n o)

  -- no name is refused: each is good and equals no earlier one, and nothing is left before the offset
  pub names_pass :
      names_refusal S n o ≡ none → (i : ℕ) → i < n → (good_at S o (name_start S i) ≡ true) × (repeated S i ≡ false)
  unfolding names_refusal name_refusal
  names_pass h i l =
      let r = judged_both (tab n (name_refusal S o)) _ h in
      tests_pass (good_at S o (name_start S i)) (repeated S i) (SameName i) (Name i)
      (none_of (name_refusal S o) n r.0 i l)

  pub rest_passes : names_refusal S n o ≡ none → o ≤ name_start S n
  unfolding names_refusal names_end_refusal
  rest_passes h =
      let r = judged_both (tab n (name_refusal S o)) _ h in
      ltb-false (name_start S n) o
      (test_passes (ltb (name_start S n) o) (Name n) (sym (judged_alone (names_end_refusal S n o)) ∙ r.1))

-- The first i of them pass, and the next starts at a place.
pub record PassedNames (S : List ℕ) (n o i at : ℕ) : Type 0 where
  pub within : i ≤ n
  pub here : at ≡ name_start S i
  pub so_far : judged (tab i (name_refusal S o)) ≡ none

pub passed_none : (S : List ℕ) (n o : ℕ) → PassedNames S n o 0 0
unfolding tab judged name_start
passed_none S n o = record { within = omega arith; here = refl; so_far = refl }

module _ {S : List ℕ} {n o i at : ℕ} (p : PassedNames S n o i at) where
  pub bad_here : i < n → good_at S o at ≡ false → names_refusal S n o ≡ some (Name i)
  bad_here l g = names_found S n o i (Name i) p.so_far l (unfold name_refusal in rw (rw p.here at g))

  module _ (g : good_at S o at ≡ true) where
    pub repeated_here : i < n → repeated S i ≡ true → names_refusal S n o ≡ some (SameName i)
    repeated_here l r =
        names_found S n o i (SameName i) p.so_far l (unfold name_refusal in rw (rw p.here at g, r))

    pub passed_more : {q : ℕ} → i < n → repeated S i ≡ false → q ≡ next_name S at → PassedNames S n o (i + 1) q
    passed_more l r h =
        let fine : name_refusal S o i ≡ none = unfold name_refusal in rw (rw p.here at g, r) in
        record {
          within = omega arith;
          here = h ∙ start_next S i p.here;
          so_far = none_yet (name_refusal S o) i p.so_far fine;
        }

  module _ (l : n ≤ i) where
    all : i ≡ n
    all = omega (arith, p.within)

    pub rest_here : at < o → names_refusal S n o ≡ some (Name n)
    unfolding names_end_refusal
    rest_here h =
        names_over S n o (rw all at p.so_far)
        ∙ rw (lt-ltb (name_start S n) o (omega (arith, rw all at p.here)))

    pub all_passed : o ≤ at → names_refusal S n o ≡ none
    unfolding names_end_refusal
    all_passed h =
        names_over S n o (rw all at p.so_far)
        ∙ rw (le-ltb (name_start S n) o (omega (arith, rw all at p.here)))
