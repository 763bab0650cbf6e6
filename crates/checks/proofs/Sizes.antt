-- Sizes: which refusal arises of a test that fails, what holds where none arises, and that what is due counts only
-- where the leaf count is right.
use Rattle.std.specs.Prelude.{Ok, Err}
use mathlib.Core.Path.{◌≡◌, refl, sym, ◌∙◌}
use mathlib.Core.Logic.{inl, inr, ◌≢◌}
use mathlib.Core.Bool.{true, false}
use mathlib.Core.List.{List, [], ◌∷◌}
use mathlib.Core.Option.{Option, none, some}
use Prim.Native.Nat.{ℕ, ◌≤◌, ◌<◌}
use native.Mathlib.Omega.{arith}
use borrow.Author.Tests.{leb-true, eqb-true, le-leb, lt-leb, eq-eqb, ne_eqb}
use lib.Dec.{leb, eqb}
use lib.ListN.{length}
use Rattle.base.proofs.Bools.{bool?, never, and_both}
use Rattle.limits.specs.declared.Kind.{Kind}
use Rattle.limits.specs.declared.Kind.TheVariants.{Counts}
use Rattle.limits.specs.Limits.{fewest_of, most_of, IsLeafCount, IsCountOf}
use Rattle.limits.proofs.TableKinds.{leaf_count_of}
use Rattle.refusals.specs.declared.Refusal.{Refusal}
use Rattle.refusals.specs.declared.Refusal.TheVariants.{LeafCount as Count, InputLength, OutputRoom}
use Rattle.refusals.specs.Refusals.{judged}
use Rattle.refusals.proofs.Answers.{refuse_passed, refuse_failed, refuse_none, judged_stops, judged_passes}
use Rattle.refusals.proofs.Answers.{judged_none, judged_alone}
use Rattle.refusals.proofs.Causes.{Arises, arises_judged, arises_last, arises_refuse}
use Rattle.checks.specs.Sizes.{right_count, count_refusal_of, length_refusal, value_unless, by_value}
use Rattle.checks.specs.Sizes.{room_refusal}
use Rattle.checks.specs.Sizes.{input_refusal, sizes_refusal}

-- the test of a leaf count
pub is_count : (kind : Kind) (n : ℕ) → right_count kind n ≡ true → IsCountOf kind n
is_count kind n h =
    let r = and_both (leb (fewest_of kind) n) (leb n (most_of kind)) h in (leb-true _ _ r.0, leb-true _ _ r.1)

pub is_leaf_count : (n : ℕ) → right_count Counts n ≡ true → IsCountOf Counts n
is_leaf_count n h = is_count Counts n h

count_is : (kind : Kind) (n : ℕ) → IsCountOf kind n → right_count kind n ≡ true
count_is kind n h = rw (le-leb (fewest_of kind) n h.0, le-leb n (most_of kind) h.1)

pub count_wrong : (kind : Kind) (n : ℕ) → right_count kind n ≡ false → IsCountOf kind n → ⊥
count_wrong kind n f h = never (count_is kind n h) f

-- each test: what fails it, what passes it, and what holds where it is passed
pub count_stops : (kind : Kind) (n : ℕ) → right_count kind n ≡ false → count_refusal_of kind n ≡ some Count
unfolding count_refusal_of
count_stops kind n h = refuse_failed Count h

pub count_passes : (kind : Kind) (n : ℕ) → IsCountOf kind n → count_refusal_of kind n ≡ none
unfolding count_refusal_of
count_passes kind n h = refuse_passed Count (count_is kind n h)

pub count_right : (kind : Kind) (n : ℕ) → count_refusal_of kind n ≡ none → IsCountOf kind n
unfolding count_refusal_of
count_right kind n h = is_count kind n (refuse_none _ Count h)

pub length_stops : (due lent : ℕ) → lent ≢ due → length_refusal due lent ≡ some InputLength
unfolding length_refusal
length_stops due lent h = refuse_failed InputLength (ne_eqb lent due h)

pub length_passes : (due lent : ℕ) → lent ≡ due → length_refusal due lent ≡ none
unfolding length_refusal
length_passes due lent h = refuse_passed InputLength (eq-eqb lent due h)

pub length_right : (due lent : ℕ) → length_refusal due lent ≡ none → lent ≡ due
unfolding length_refusal
length_right due lent h = eqb-true lent due (refuse_none _ InputLength h)

-- a value, unless a refusal arises
value_told : {A : Type 0} (o : Option Refusal) (x y : A) → Ok y ≡ value_unless o x → (o ≡ none) × (y ≡ x)
unfolding value_unless
value_told none x y h = (refl, cc)
value_told (some r) x y h = absurd (let z : ◌≡◌ {A = ℕ} 0 1 = cc in omega arith)

refusal_told : {A : Type 0} (o : Option Refusal) (x : A) (r : Refusal) → Err r ≡ value_unless o x → o ≡ some r
unfolding value_unless
refusal_told none x r h = absurd (let z : ◌≡◌ {A = ℕ} 0 1 = cc in omega arith)
refusal_told (some q) x r h = cc

-- a lent input by value, as code returns it; and what is known where it is returned
module _ {A : Type 0} (due : ℕ) (l : List A) where
  pub value_fits : (x : List A) → length l ≡ due → x ≡ l → Ok x ≡ by_value due l
  unfolding by_value value_unless
  value_fits x e h = rw (length_passes due (length l) e, h)

  pub value_off : length l ≢ due → Err InputLength ≡ by_value due l
  unfolding by_value value_unless
  value_off d = rw (length_stops due (length l) d)

  pub value_right : {x : List A} → Ok x ≡ by_value due l → (length_refusal due (length l) ≡ none) × (x ≡ l)
  unfolding by_value
  value_right h = value_told _ _ _ h

  pub value_wrong : {r : Refusal} → Err r ≡ by_value due l → length_refusal due (length l) ≡ some r
  unfolding by_value
  value_wrong h = refusal_told _ _ _ h

pub room_stops : (due room : ℕ) → room < due → room_refusal due room ≡ some OutputRoom
unfolding room_refusal
room_stops due room h = refuse_failed OutputRoom (lt-leb due room h)

pub room_passes : (due room : ℕ) → due ≤ room → room_refusal due room ≡ none
unfolding room_refusal
room_passes due room h = refuse_passed OutputRoom (le-leb due room h)

pub room_right : (due room : ℕ) → room_refusal due room ≡ none → due ≤ room
unfolding room_refusal
room_right due room h = leb-true due room (refuse_none _ OutputRoom h)

-- The leaf count and an input.
module _ (kind : Kind) (n due lent : ℕ) where
  pub input_right : input_refusal kind n due lent ≡ none → IsCountOf kind n × (lent ≡ due)
  unfolding input_refusal
  input_right h =
      let a = judged_none (count_refusal_of kind n) _ h in
      let b = judged_none (length_refusal due lent) _ a.1 in
      (count_right kind n a.0, length_right due lent b.0)

  pub input_passes : IsCountOf kind n → lent ≡ due → input_refusal kind n due lent ≡ none
  unfolding input_refusal
  input_passes c e =
      judged_passes _ (count_passes kind n c) ∙ judged_alone _ ∙ length_passes due lent e

  -- where the leaf count is wrong, it does not matter what is due
  pub input_due :
      (due' : ℕ) → (IsCountOf kind n → due ≡ due') → input_refusal kind n due lent ≡ input_refusal kind n due' lent
  unfolding input_refusal
  input_due due' h = elim (bool? (right_count kind n)) [
    | inl t ↦ rw (h (is_count kind n t))
    | inr f ↦ judged_stops _ (count_stops kind n f) ∙ sym (judged_stops _ (count_stops kind n f))
  ]

  -- the same, where it is known for every leaf count of a tree: a poll's is one
  pub input_as_due :
      (due' : ℕ) → (IsLeafCount n → due ≡ due') → input_refusal kind n due lent ≡ input_refusal kind n due' lent
  input_as_due due' h = input_due due' (λ c. h (leaf_count_of kind n c))

-- And the room for a result.
pub record RightSizes (kind : Kind) (n due lent result room : ℕ) : Type 0 where
  pub count : IsCountOf kind n
  pub long : lent ≡ due
  pub enough : result ≤ room

module _ (kind : Kind) (n due lent result room : ℕ) where
  pub sizes_right : sizes_refusal kind n due lent result room ≡ none → RightSizes kind n due lent result room
  unfolding sizes_refusal
  sizes_right h =
      let a = judged_none (input_refusal kind n due lent) _ h in
      let b = judged_none (room_refusal result room) _ a.1 in
      let c = input_right kind n due lent a.0 in
      record { count = c.0; long = c.1; enough = room_right result room b.0 }

  pub sizes_pass : RightSizes kind n due lent result room → sizes_refusal kind n due lent result room ≡ none
  unfolding sizes_refusal
  sizes_pass w =
      judged_passes _ (input_passes kind n due lent w.count w.long)
      ∙ judged_alone _
      ∙ room_passes result room w.enough

  pub sizes_due :
      (due' result' : ℕ) → (IsCountOf kind n → (due ≡ due') × (result ≡ result'))
      → sizes_refusal kind n due lent result room ≡ sizes_refusal kind n due' lent result' room
  unfolding sizes_refusal
  sizes_due due' result' h = elim (bool? (right_count kind n)) [
    | inl t ↦ let e = h (is_count kind n t) in rw (e.0, e.1)
    | inr f ↦ stops f due result ∙ sym (stops f due' result')
  ]
    where
      stops :
          right_count kind n ≡ false → (d r : ℕ)
          → judged (input_refusal kind n d lent ∷ room_refusal r room ∷ []) ≡ some Count
      stops f d r = judged_stops _ (unfold input_refusal in judged_stops _ (count_stops kind n f))

  pub sizes_as_due :
      (due' result' : ℕ) → (IsLeafCount n → due ≡ due') → (IsLeafCount n → result ≡ result')
      → sizes_refusal kind n due lent result room ≡ sizes_refusal kind n due' lent result' room
  sizes_as_due due' result' h h' =
      sizes_due due' result' (λ c. let k = leaf_count_of kind n c in (h k, h' k))

-- which refusals of sizes may arise
module _ (P : Refusal → Type 0) (kind : Kind) (n due lent result room : ℕ) (count : P Count)
    (input : P InputLength) where
  pub input_arises : Arises P (input_refusal kind n due lent)
  unfolding input_refusal count_refusal_of length_refusal
  input_arises =
      arises_judged P (count_refusal_of kind n) _ (arises_refuse P (right_count kind n) Count count)
      (λ _. arises_last P (length_refusal due lent) (arises_refuse P (eqb lent due) InputLength input))

  pub sizes_arise : P OutputRoom → Arises P (sizes_refusal kind n due lent result room)
  unfolding sizes_refusal room_refusal
  sizes_arise output =
      arises_judged P (input_refusal kind n due lent) _ input_arises
      (λ _. arises_last P (room_refusal result room) (arises_refuse P (leb result room) OutputRoom output))
