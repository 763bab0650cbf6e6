-- The reply of a C call, one number of 64 bits: its bits 0 to 7 are 0, or the number of the refusal; the bits above are
-- the figure that comes with it, its lowest 56 bits.
use Rattle.std.specs.Prelude.{Bool, cond, List, [], ◌∷◌, ℕ, ◌+◌, ◌*◌, ◌%◌, ◌^◌, length}
use Rattle.refusals.specs.declared.Refusal.{Refusal}
use Rattle.refusals.specs.Refusals.{number_of, figures_of, Answer, accepted, refused}

-- how many numbers eight bits hold
abbrev pub eight_bits : ℕ
eight_bits = 2 ^ 8

-- how many figures a reply can tell: it has 56 bits for one
abbrev pub figure_limit : ℕ
figure_limit = 2 ^ 56

-- a number of eight bits, and above it the lowest 56 bits of a figure
abbrev pub in_one : (number figure : ℕ) → ℕ
in_one k x = k + eight_bits * (x % figure_limit)

-- the figures of a refusal as one number: none is 0, and two, i and j, are 256 i + j
abbrev pub figure : List ℕ → ℕ
figure [] = 0
figure (x ∷ []) = x
figure (i ∷ j ∷ l) = eight_bits * i + j

abbrev pub refusal_reply : Refusal → ℕ
refusal_reply r = in_one (number_of r) (figure (figures_of r))

-- the reply of a call whose result, if it has one, stands in a buffer: an accepted one is 0
unfoldable pub reply : {A : Type 0} → Answer A → ℕ
reply (accepted x) = 0
reply (refused r) = refusal_reply r

-- the reply of a call whose result is a number: it is the figure
unfoldable pub number_reply : Answer ℕ → ℕ
number_reply (accepted x) = in_one 0 x
number_reply (refused r) = refusal_reply r

-- the reply of a call that says yes or no: the figure is 1 or 0
unfoldable pub verdict_reply : Answer Bool → ℕ
verdict_reply (accepted b) = in_one 0 (cond b 1 0)
verdict_reply (refused r) = refusal_reply r

-- the reply of a call whose result stands in a buffer: its length is the figure
unfoldable pub length_reply : {A : Type 0} → Answer (List A) → ℕ
length_reply (accepted l) = in_one 0 (length l)
length_reply (refused r) = refusal_reply r

-- the reply of a call that, where it is accepted, has this number for a result too
unfoldable pub reply_with : {A : Type 0} → ℕ → Answer A → ℕ
reply_with n (accepted x) = in_one 0 n
reply_with n (refused r) = refusal_reply r

-- the answer of a call that says its refusal's number alone, and no figure: 0, or that number
unfoldable pub number_alone : {A : Type 0} → Answer A → ℕ
number_alone (accepted x) = 0
number_alone (refused r) = number_of r
