-- What a reply tells: its bits 0 to 7 are the number, the bits above are the lowest 56 bits of the figure, and two
-- numbers in one figure can be taken apart again; it is 0 exactly when the call is accepted with nothing to say.
use Rattle.std.specs.Prelude.{Result, Ok, Err}
use mathlib.Core.Path.{◌≡◌, refl, ap, sym, ◌∙◌}
use mathlib.Core.Logic.{◌↔◌}
use mathlib.Core.Bool.{Bool, true, false, cond}
use Prim.Native.Nat.{ℕ, ◌+◌, ◌*◌, ◌/◌, ◌%◌, ◌<◌}
use native.Mathlib.Omega.{arith}
use Rattle.refusals.specs.declared.Refusal.{Refusal}
use Rattle.refusals.specs.declared.Refusal.TheVariants.{Halves, NoTree}
use Rattle.refusals.specs.Refusals.{Outcome, number_of, figures_of, Answer, accepted, refused, outcome, returned}
use Rattle.refusals.proofs.Answers.{accepted_not_refused, accepted_same}
use Rattle.replies.specs.Replies.{eight_bits, figure_limit, in_one, figure, reply, number_reply, reply_with}
use Rattle.replies.specs.Replies.{verdict_reply, number_alone}
use Rattle.replies.specs.inner.Told.{told_reply, told_number}
use Rattle.replies.proofs.Numbers.{numbered}

-- A number of eight bits and a figure, taken apart: a figure below the limit is told whole.
pub taken_apart :
    (k x : ℕ) → k < eight_bits → (in_one k x % eight_bits ≡ k) × (in_one k x / eight_bits ≡ x % figure_limit)
taken_apart k x h = (omega arith, omega arith)

pub told_whole : (x : ℕ) → x < figure_limit → x % figure_limit ≡ x
told_whole x h = omega arith

-- Two numbers in one figure: both leaves of 5, and the place and the length of a name.
pub two_in_one :
    (x y : ℕ) → eight_bits * x + y < figure_limit → y < eight_bits
    → ((eight_bits * x + y) % figure_limit / eight_bits ≡ x) × ((eight_bits * x + y) % figure_limit % eight_bits ≡ y)
two_in_one x y l h = (omega arith, omega arith)

-- the figure that comes with an answer: this number where it is accepted, else the refusal's
abbrev pub figure_or : {A : Type 0} → ℕ → Answer A → ℕ
figure_or x (accepted y) = x
figure_or x (refused r) = figure (figures_of r)

-- the number that is the result, 0 where there is none
abbrev pub result_or_0 : Answer ℕ → ℕ
result_or_0 (accepted x) = x
result_or_0 (refused r) = 0

module _ {A : Type 0} where
  number_alone_small : (a : Answer A) → number_alone a < eight_bits
  unfolding number_alone
  number_alone_small (accepted x) = omega arith
  number_alone_small (refused r) = (numbered r).1

  reply_with_parts : (x : ℕ) (a : Answer A) → reply_with x a ≡ in_one (number_alone a) (figure_or x a)
  unfolding reply_with number_alone
  reply_with_parts x (accepted y) = refl
  reply_with_parts x (refused r) = refl

  -- The reply of a call that has a number for a result too: the number, and the figure.
  pub reply_with_number : (x : ℕ) (a : Answer A) → reply_with x a % eight_bits ≡ number_alone a
  reply_with_number x a = ap (λ k. k % eight_bits) (reply_with_parts x a) ∙ (taken_apart _ _ (number_alone_small a)).0

  pub reply_with_figure : (x : ℕ) (a : Answer A) → reply_with x a / eight_bits ≡ figure_or x a % figure_limit
  reply_with_figure x a = ap (λ k. k / eight_bits) (reply_with_parts x a) ∙ (taken_apart _ _ (number_alone_small a)).1

  -- The reply of a call whose result stands in a buffer.
  reply_is : (a : Answer A) → reply a ≡ reply_with 0 a
  unfolding reply reply_with
  reply_is (accepted x) = refl
  reply_is (refused r) = refl

  pub reply_number : (a : Answer A) → reply a % eight_bits ≡ number_alone a
  reply_number a = ap (λ k. k % eight_bits) (reply_is a) ∙ reply_with_number 0 a

  pub reply_figure : (a : Answer A) → reply a / eight_bits ≡ figure_or 0 a % figure_limit
  reply_figure a = ap (λ k. k / eight_bits) (reply_is a) ∙ reply_with_figure 0 a

  -- The number is 0 exactly when the call is accepted, and 6 exactly when no tree is found.
  pub number_alone_zero : (a : Answer A) → (number_alone a ≡ 0) ↔ ((x : A) × (a ≡ accepted x))
  unfolding number_alone
  number_alone_zero (accepted x) = (λ h. (x, refl), λ h. refl)
  number_alone_zero (refused r) = (
    λ h. absurd (omega (arith, (numbered r).0)),
    λ h. absurd (accepted_not_refused h.0 r (sym h.1)),
  )

  pub number_alone_six : (a : Answer A) → (number_alone a ≡ 6) ↔ (a ≡ refused NoTree)
  unfolding number_alone
  number_alone_six (accepted x) = (λ h. absurd (omega arith), λ h. absurd (accepted_not_refused x NoTree h))
  number_alone_six (refused r) = (
    λ h. ap refused ((numbered r).2 h),
    λ h. (let e : r ≡ NoTree = cc in ap number_of e),
  )

  -- The reply is 0 exactly when the call is accepted, and its figure, if it has one, is 0.
  pub reply_with_zero :
      (x : ℕ) (a : Answer A) → x < figure_limit → (reply_with x a ≡ 0) ↔ ((x ≡ 0) × ((y : A) × (a ≡ accepted y)))
  reply_with_zero x (accepted y) l = unfold reply_with in (
    λ h. (omega (arith, told_whole x l), (y, refl)),
    λ h. omega (arith, h.0),
  )
  reply_with_zero x (refused r) l = unfold reply_with in (
    λ h. absurd (omega (arith, (numbered r).0)),
    λ h. absurd (accepted_not_refused h.1.0 r (sym h.1.1)),
  )

  pub reply_zero : (a : Answer A) → (reply a ≡ 0) ↔ ((x : A) × (a ≡ accepted x))
  reply_zero a = (
    λ h. ((reply_with_zero 0 a (omega arith)).0 (sym (reply_is a) ∙ h)).1,
    λ h. reply_is a ∙ (reply_with_zero 0 a (omega arith)).1 (refl, h),
  )

  -- The two leaves of 5 come apart again, where they have eight bits.
  pub halves_apart :
      (a : Answer A) (i j : ℕ) → a ≡ refused (Halves i j) → i < eight_bits → j < eight_bits
      → (reply a / eight_bits / eight_bits ≡ i) × (reply a / eight_bits % eight_bits ≡ j)
  halves_apart a i j e l h =
      let both = two_in_one i j (omega arith) h in
      let figured : reply a / eight_bits ≡ (eight_bits * i + j) % figure_limit = reply_figure a ∙ rw e in
      (ap (λ k. k / eight_bits) figured ∙ both.0, ap (λ k. k % eight_bits) figured ∙ both.1)

  -- The reply to an answer, as code makes it of the outcome q.
  module _ {r : ℕ} {q : Outcome} where
    pub replied : (a : Answer A) → r ≡ told_reply (λ _. 0) q → q ≡ outcome a → r ≡ reply a
    unfolding outcome reply
    replied (accepted x) h e = rw e at h
    replied (refused x) h e = rw e at h

    pub replied_with :
        (x y : ℕ) (a : Answer A) → r ≡ told_reply (λ _. x) q → x % figure_limit ≡ y % figure_limit
        → q ≡ outcome a → r ≡ reply_with y a
    unfolding outcome reply_with
    replied_with x y (accepted z) h s e = rw (e, s) at h
    replied_with x y (refused z) h s e = rw e at h

    pub said_alone : (a : Answer A) → r ≡ told_number q → q ≡ outcome a → r ≡ number_alone a
    unfolding outcome number_alone
    said_alone (accepted x) h e = rw e at h
    said_alone (refused x) h e = rw e at h

-- The reply of a call whose result is a number.
number_reply_is : (a : Answer ℕ) → number_reply a ≡ reply_with (result_or_0 a) a
unfolding number_reply reply_with
number_reply_is (accepted x) = refl
number_reply_is (refused r) = refl

pub number_replied :
    {r : ℕ} {q : Result ℕ Refusal} (a : Answer ℕ) → r ≡ told_reply (λ k. k) q → q ≡ returned a → r ≡ number_reply a
unfolding returned number_reply
number_replied (accepted x) h e = rw e at h
number_replied (refused x) h e = rw e at h

pub number_reply_number : (a : Answer ℕ) → number_reply a % eight_bits ≡ number_alone a
number_reply_number a = ap (λ k. k % eight_bits) (number_reply_is a) ∙ reply_with_number (result_or_0 a) a

pub number_reply_figure : (a : Answer ℕ) → number_reply a / eight_bits ≡ figure_or (result_or_0 a) a % figure_limit
number_reply_figure a = ap (λ k. k / eight_bits) (number_reply_is a) ∙ reply_with_figure (result_or_0 a) a

pub number_reply_zero : (a : Answer ℕ) → result_or_0 a < figure_limit → (number_reply a ≡ 0) ↔ (a ≡ accepted 0)
number_reply_zero (accepted x) l = unfold number_reply in (
  λ h. (let z : x ≡ 0 = omega (arith, told_whole x l) in ap accepted z),
  λ h. (let z = accepted_same x 0 h in omega arith),
)
number_reply_zero (refused r) l = unfold number_reply in (
  λ h. absurd (omega (arith, (numbered r).0)),
  λ h. absurd (accepted_not_refused 0 r (sym h)),
)

-- The reply of a call that says yes or no: the number, and the figure 1 or 0; and as code makes it of what is returned.
yes_or_no : Answer Bool → ℕ
yes_or_no (accepted b) = cond b 1 0
yes_or_no (refused r) = 0

verdict_reply_is : (a : Answer Bool) → verdict_reply a ≡ reply_with (yes_or_no a) a
unfolding verdict_reply reply_with yes_or_no
verdict_reply_is (accepted b) = refl
verdict_reply_is (refused r) = refl

pub verdict_number : (a : Answer Bool) → verdict_reply a % eight_bits ≡ number_alone a
verdict_number a = ap (λ k. k % eight_bits) (verdict_reply_is a) ∙ reply_with_number (yes_or_no a) a

pub verdict_figure : (b : Bool) → verdict_reply (accepted b) / eight_bits ≡ cond b 1 0
unfolding verdict_reply
verdict_figure true = refl
verdict_figure false = refl

pub verdict_replied :
    {r : ℕ} {v : Result Bool Refusal} (a : Answer Bool) → r ≡ told_reply (λ b. cond b 1 0) v → v ≡ returned a
    → r ≡ verdict_reply a
unfolding returned verdict_reply
verdict_replied (accepted b) h e = rw e at h
verdict_replied (refused x) h e = rw e at h
